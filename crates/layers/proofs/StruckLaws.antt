-- Laws of the voices in an array, as the loop that fills it wants them.
use Rattle.std.specs.Prelude.{None, Some}
use mathlib.Core.List.{List, [], ◌∷◌, ◌++◌, map, map-append, append_assoc}
use Prim.Native.Nat.{ℕ, ◌-◌, ◌≤◌, ◌<◌, min, suc, ◌+◌}
use mathlib.Core.Path.{◌≡◌, ap, ◌∙◌, refl, sym}
use native.Mathlib.Omega.{arith}
use lib.ListN.{get_or-append, length, replicate, get_or, take, set, length-map, length-take}
use lib.Seq.{take_all, take-suc, set_at, length-take-le, take_at}
use native.Mathlib.Numerals.{add-one}
use borrow.Author.Tests.{le-leb, lt-leb}
use native.Mathlib.Nat.{le_refl}
use mathlib.Core.Bool.{true, false}
use Rattle.voice.specs.declared.Voice.{Voice}
use Rattle.layers.specs.declared.Struck.{Struck}
use Rattle.layers.specs.Internal.LayerSearch.{no_pair, up_to33, searched}
use Rattle.layers.specs.declared.Layers.{Layers}
use Rattle.layers.specs.declared.Pair.{Pair}
use Rattle.voice.specs.Changes.{blank}
use Rattle.layers.specs.Internal.Voicing.{struck_of}
use Rattle.records.specs.Sides.{parts_of}
use Rattle.layers.specs.LayerSearch.{preset_for, layers_of}
use Rattle.layers.specs.Voicing.{voices_of, has_preset, struck_voices, voice_of}
use Rattle.layers.proofs.LayerSearchLaws.{layer_count}
use Rattle.records.specs.declared.Parts.{Parts}

-- a count of voices and the array that holds them
abbrev pub struck_by : ℕ → List Voice → Struck
struck_by n vs = record { count = n; voices = vs }

-- what the search found, where it is at most 32: the layers themselves
module _ (l : List Pair) (found : Layers) (is : found ≡ up_to33 l) (few : found.count ≤ 32) where
  pub found-length : found.count ≡ length l
  unfolding up_to33
  found-length =
      let e : found.count ≡ min 33 (length l) = ap (λ (x : Layers). x.count) is in
      omega arith

  pub found_at : (i : ℕ) → i < found.count → get_or found.pairs i no_pair ≡ get_or l i no_pair
  unfolding up_to33
  found_at i h =
      let n : length l ≤ 33 = omega (arith, found-length) in
      let m : i < length l = omega (arith, found-length) in
      ap (λ (x : Layers). get_or x.pairs i no_pair) is ∙ rw (take_all 33 l n) (get_or-append l (replicate (33 - length l) no_pair) no_pair i m)

module _ (f : Pair → Voice) (l : List Pair) where
  -- the voices of the first i layers in an array, the rest blank
  unfoldable pub filled : ℕ → List Voice
  filled i = map f (take i l) ++ replicate (32 - i) blank

  pub filled_none : replicate 32 blank ≡ filled 0
  unfolding filled
  filled_none = refl

  -- one layer more
  pub filled-set : (i : ℕ) (p : Pair) (v : Voice) → i < length l → length l ≤ 32 → p ≡ get_or l i no_pair → v ≡ f p → set (filled i) i v ≡ filled (i + 1)
  unfolding filled
  filled-set i p v h few at is =
      let room : 32 - i ≡ suc (32 - (i + 1)) = omega arith in
      let len : length (map f (take i l)) ≡ i = length-map (take i l) f ∙ length-take-le i l (omega arith) in
      let more : map f (take (i + 1) l) ≡ map f (take i l) ++ (v ∷ []) = rw (add-one, take-suc l i no_pair h, map-append, is, at) refl in
      rw (room, more) (set_at (map f (take i l)) blank (replicate (32 - (i + 1)) blank) v i len ∙ sym (append_assoc (map f (take i l)) (v ∷ []) (replicate (32 - (i + 1)) blank)))

  -- all of at most 32
  pub struck-few : (i : ℕ) → i ≡ length l → length l ≤ 32 → struck_by i (filled i) ≡ struck_of (map f (take 33 l))
  unfolding struck_of filled
  struck-few i e few =
      let whole : take 33 l ≡ l = take_all 33 l (omega arith) in
      let all : take (length l) l ≡ l = take_all (length l) l (le_refl (length l)) in
      rw (whole, e, all, length-map l f, le-leb (length l) 32 few) refl

  -- of 33 the number alone
  pub struck-many : (n : ℕ) → n ≡ min 33 (length l) → 32 < n → struck_by n (replicate 32 blank) ≡ struck_of (map f (take 33 l))
  unfolding struck_of
  struck-many n e many =
      let len : length (map f (take 33 l)) ≡ n = length-map (take 33 l) f ∙ length-take 33 l ∙ sym e in
      rw (len, lt-leb n 32 many) refl

-- what stands in the array, where there are at most 32: the voices themselves
pub struck-voices : (vs : List Voice) → length vs ≤ 32 → take (struck_of vs).count (struck_of vs).voices ≡ vs
unfolding struck_of
struck-voices vs few = rw (le-leb (length vs) 32 few) (take_at vs (replicate (32 - length vs) blank) (length vs) refl)

-- the voices of a preset that is there, and of none
module _ (b : List ℕ) (bank program : ℕ) where
  pub struck-none : preset_for b (parts_of b) bank program ≡ None → (channel key velocity : ℕ) → struck_voices b bank program channel key velocity ≡ []
  unfolding struck_voices
  struck-none e channel key velocity = rw e refl

  pub struck-some : (h : ℕ) → preset_for b (parts_of b) bank program ≡ Some h → (channel key velocity : ℕ) → struck_voices b bank program channel key velocity ≡ voices_of b (parts_of b) h channel key velocity
  unfolding struck_voices
  struck-some h e channel key velocity = rw e refl

  pub preset-none : preset_for b (parts_of b) bank program ≡ None → has_preset b bank program ≡ false
  unfolding has_preset
  preset-none e = rw e refl

  pub preset-some : (h : ℕ) → preset_for b (parts_of b) bank program ≡ Some h → has_preset b bank program ≡ true
  unfolding has_preset
  preset-some h e = rw e refl

-- the number of layers that the search gives is the number in full, and at most 33; as many voices stand for them
module _ (b : List ℕ) (m : Parts) (key velocity h : ℕ) where
  pub searched-count : (searched b m key velocity h).count ≡ min 33 (layer_count b m key velocity h)
  unfolding searched up_to33 layer_count
  searched-count = refl

  pub searched-most : (searched b m key velocity h).count ≤ 33
  searched-most = omega (arith, searched-count)

  pub voices-count : (channel : ℕ) → length (voices_of b m h channel key velocity) ≡ min 33 (layer_count b m key velocity h)
  unfolding voices_of layer_count
  voices-count channel =
      length-map (take 33 (layers_of b m key velocity h)) (voice_of b m h channel key velocity) ∙ length-take 33 (layers_of b m key velocity h)
