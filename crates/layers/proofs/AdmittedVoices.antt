-- What is true of every voice that an admitted bank starts.
use Rattle.std.specs.Prelude.{Option, None, Some}
use mathlib.Core.Bool.{true, false, Bool, cond, ◌&&◌}
use mathlib.Core.Path.{◌≡◌, refl, subst}
use Prim.Native.Nat.{ℕ, ◌-◌, ◌≤◌, ◌<◌, zero, suc, ◌+◌}
use mathlib.Core.List.{List, [], ◌∷◌, ◌++◌, map}
use lib.ListN.{take}
use native.Mathlib.Omega.{arith}
use lib.Dec.{eqb}
use borrow.Author.Tests.{eqb-false}
use native.Mathlib.Nat.{le_refl}
use Rattle.records.specs.Windows.{loops, mode_of}
use Rattle.voice.specs.declared.Voice.{Voice}
use Rattle.records.specs.Zones.{zone_at, zone_count}
use Rattle.records.specs.declared.Side.{Side}
use Rattle.layers.specs.LayerSearch.{picked, chosen, under, all_under, layers_below, layers_of, layer_of, preset_for, is_preset}
use Rattle.bank.specs.Rules.{Sounding, Admitted}
use Rattle.records.specs.Sides.{bag_of, parts_of, presets, instruments}
use Rattle.totals.specs.Settings.{play_mode}
use Rattle.bank.proofs.AdmittedLaws.{rate-in, window-in, instrument-in, admitted-rules}
use Rattle.totals.proofs.SettingsLaws.{mod4-lt}
use Rattle.layers.specs.Voicing.{voice_by, voice_of, voices_of, struck_voices}
use Rattle.layers.specs.declared.Pair.{Pair}
use Rattle.records.proofs.LookingLaws.{first-is}
use Rattle.bank.specs.Admission.{admitted}
use Rattle.bank.specs.Past.{past_memory}
use Rattle.bank.proofs.PastLaws.{none-past}
use Rattle.layers.proofs.StruckLaws.{struck-none, struck-some}

-- a voice struck with channel, key and velocity: a rate of 400..50,000; mode 0, 1 or 3; a window of some samples; in modes 1 and 3 a loop
-- of some samples within it
pub record GoodVoice (channel key velocity : ℕ) (v : Voice) : Type 0 where
  pub channel-is : v.channel ≡ channel
  pub key-is : v.key ≡ key
  pub velocity-is : v.velocity ≡ velocity
  pub unmarked : v.marked ≡ false
  pub rate-low : 400 ≤ v.rate
  pub rate-high : v.rate ≤ 50000
  pub mode-low : v.mode < 4
  pub mode-not : v.mode ≡ 2 → ⊥
  pub some : v.start < v.end
  pub high : v.end < 4294967296
  pub loop-some : loops v.mode ≡ true → v.loopfrom < v.loopto
  pub loop-high : loops v.mode ≡ true → v.loopto ≤ v.end - v.start

-- its window ends within a memory of so many samples
abbrev pub Inside : ℕ → ℕ → Voice → Type 0
Inside ram rom v = v.end ≤ cond v.rom rom ram

-- P of each of a list
module _ {A : Type 0} (P : A → Type 0) where
  abbrev pub All : List A → Type 0
  All [] = Unit {0}
  All (x ∷ xs) = P x × All xs

  all_join : (xs ys : List A) → All xs → All ys → All (xs ++ ys)
  all_join [] ys h k = k
  all_join (x ∷ xs) ys h k = (h.0, all_join xs ys h.1 k)

  all_take : (n : ℕ) (xs : List A) → All xs → All (take n xs)
  all_take zero xs h = tt
  all_take (suc n) [] h = tt
  all_take (suc n) (x ∷ xs) h = (h.0, all_take n xs h.1)

  all-if : (t : Bool) (xs : List A) → (t ≡ true → All xs) → All (cond t xs [])
  all-if true xs h = h refl
  all-if false xs h = tt

all_map : {A B : Type 0} (P : A → Type 0) (Q : B → Type 0) (f : A → B) → ((x : A) → P x → Q (f x)) → (xs : List A) → All P xs → All Q (map f xs)
all_map P Q f g [] h = tt
all_map P Q f g (x ∷ xs) h = (g x h.0, all_map P Q f g xs h.1)

and-front : (s t : Bool) → (s && t) ≡ true → s ≡ true
and-front true t e = refl
and-front false t e = e

chosen-sounds : (b : List ℕ) (s : Side) (key velocity h z : ℕ) → chosen b s key velocity h z ≡ true → (zone_at b s z).sounding ≡ true
unfolding chosen picked
chosen-sounds b s key velocity h z e = and-front (zone_at b s z).sounding _ e

-- a zone that was chosen among the first zones of a head
among : (b : List ℕ) (s : Side) (key velocity h n : ℕ) → h + 1 < s.nheads → n < zone_count b s h → chosen b s key velocity h (bag_of b s h + n) ≡ true → Sounding b s h (bag_of b s h + n)
unfolding zone_count
among b s key velocity h n head less e =
    record { head = head; low = omega arith; high = omega arith; sounds = chosen-sounds b s key velocity h (bag_of b s h + n) e }

-- a preset zone names an inst record
instruments-named : (b : List ℕ) → (parts_of b).presets.nlinks ≡ (parts_of b).instruments.nheads
unfolding parts_of presets instruments
instruments-named b = refl

-- mode 2 counts as 0: what loops as it is played loops as it is stored
play-loops : (x : ℕ) → loops (play_mode x) ≡ true → loops x ≡ true
unfolding play_mode loops
play-loops x e = by (eqb x 2) e
  where
    by : (t : Bool) → loops (cond t 0 x) ≡ true → loops x ≡ true
    by true e = absurd (never e)
      where
        never : loops 0 ≡ true → ⊥
        never e = let z : ◌≡◌ {A = ℕ} 0 1 = cc in omega arith
    by false e = e

play-low : (x : ℕ) → x < 4 → play_mode x < 4
unfolding play_mode
play-low x h = by (eqb x 2)
  where
    by : (t : Bool) → cond t 0 x < 4
    by true = omega arith
    by false = h

play-not : (x : ℕ) → play_mode x ≡ 2 → ⊥
unfolding play_mode
play-not x e = by (eqb x 2) refl e
  where
    by : (t : Bool) → eqb x 2 ≡ t → cond t 0 x ≡ 2 → ⊥
    by true q e = omega arith
    by false q e = eqb-false x 2 q e

module _ (b : List ℕ) (a : Admitted b) where
  abbrev p : Side
  p = (parts_of b).presets

  abbrev i : Side
  i = (parts_of b).instruments

  -- the instrument zone of a layer sounds, in the instrument that its preset zone names
  abbrev Layered : Pair → Type 0
  Layered l = Sounding b i (zone_at b p l.outer).link l.inner

  under-sounds : (key velocity z k n : ℕ) → k ≡ (zone_at b p z).link → k + 1 < i.nheads → n ≤ zone_count b i k → All Layered (under b i key velocity z k n)
  unfolding under
  under-sounds key velocity z k zero e head h = tt
  under-sounds key velocity z k (suc n) e head h =
      all_join Layered (under b i key velocity z k n) _ (under-sounds key velocity z k n e head (omega arith))
      (all-if Layered (chosen b i key velocity k (bag_of b i k + n)) _ (λ yes. (subst (λ (x : ℕ). Sounding b i x (bag_of b i k + n)) e (among b i key velocity k n head (omega arith) yes), tt)))

  below-sounds : (key velocity h n : ℕ) → h + 1 < p.nheads → n ≤ zone_count b p h → All Layered (layers_below b p i key velocity h n)
  unfolding layers_below all_under
  below-sounds key velocity h zero head less = tt
  below-sounds key velocity h (suc n) head less =
      all_join Layered (layers_below b p i key velocity h n) _ (below-sounds key velocity h n head (omega arith))
      (all-if Layered (chosen b p key velocity h (bag_of b p h + n)) _ (λ yes. whole (among b p key velocity h n head (omega arith) yes)))
    where
      whole : Sounding b p h (bag_of b p h + n) → All Layered (all_under b p i key velocity (bag_of b p h + n))
      whole s =
          let k = (zone_at b p (bag_of b p h + n)).link in
          under-sounds key velocity (bag_of b p h + n) k (zone_count b i k) refl (named k (instrument-in a h (bag_of b p h + n) s)) (le_refl (zone_count b i k))
        where
          named : (k : ℕ) → k < p.nlinks - 1 → k + 1 < i.nheads
          named k h = omega (arith, instruments-named b)

  -- such a layer's voice
  good-voice : (h channel key velocity : ℕ) (l : Pair) → Layered l → GoodVoice channel key velocity (voice_of b (parts_of b) h channel key velocity l)
  unfolding voice_of voice_by layer_of mode_of
  good-voice h channel key velocity l s =
      let r = rate-in a s in
      let w = window-in a s in
      record {
        channel-is = refl;
        key-is = refl;
        velocity-is = refl;
        unmarked = refl;
        rate-low = omega (arith, r.0, r.1);
        rate-high = omega (arith, r.0, r.1);
        mode-low = play-low _ (mod4-lt _);
        mode-not = play-not _;
        some = w.some;
        high = w.high;
        loop-some = λ e. omega (arith, w.loop-low (play-loops _ e), w.loop-some (play-loops _ e));
        loop-high = λ e. omega (arith, w.loop-low (play-loops _ e), w.loop-some (play-loops _ e), w.loop-high (play-loops _ e));
      }

  -- what is true of the voice of each layer is true of the voices of a preset
  voices-each : (Q : Voice → Type 0) (h channel key velocity : ℕ) → ((l : Pair) → Layered l → Q (voice_of b (parts_of b) h channel key velocity l)) → h + 1 < p.nheads → All Q (voices_of b (parts_of b) h channel key velocity)
  unfolding voices_of layers_of
  voices-each Q h channel key velocity each head =
      let ls = layers_below b p i key velocity h (zone_count b p h) in
      let all = below-sounds key velocity h (zone_count b p h) head (le_refl (zone_count b p h)) in
      all_map Layered Q (voice_of b (parts_of b) h channel key velocity) each (take 33 ls) (all_take Layered 33 ls all)

  -- a layer's voice ends within its memory
  inside-voice : (ram rom : ℕ) → admitted b ≡ true → past_memory b ram rom ≡ None → (h channel key velocity : ℕ) (l : Pair) → Layered l → Inside ram rom (voice_of b (parts_of b) h channel key velocity l)
  unfolding voice_of voice_by layer_of
  inside-voice ram rom ok none h channel key velocity l s = none-past b ram rom ok none (zone_at b p l.outer).link l.inner s

-- a preset that is found is not the terminal record
pub preset-in : (b : List ℕ) (bank program h : ℕ) → preset_for b (parts_of b) bank program ≡ Some h → h + 1 < (parts_of b).presets.nheads
unfolding preset_for
preset-in b bank program h e = let t = first-is (is_preset b (parts_of b) bank program) 0 ((parts_of b).presets.nheads - 1) h e in omega (arith, t.high)

-- what is true of the voice of each layer is true of every voice that an admitted bank starts
struck-each : (b : List ℕ) → admitted b ≡ true → (Q : Voice → Type 0) (bank program channel key velocity : ℕ)
    → ((h : ℕ) (l : Pair) → Sounding b (parts_of b).instruments (zone_at b (parts_of b).presets l.outer).link l.inner → Q (voice_of b (parts_of b) h channel key velocity l))
    → All Q (struck_voices b bank program channel key velocity)
struck-each b ok Q bank program channel key velocity each = by (preset_for b (parts_of b) bank program) refl
  where
    by : (f : Option ℕ) → preset_for b (parts_of b) bank program ≡ f → All Q (struck_voices b bank program channel key velocity)
    by None e = rw (struck-none b bank program e channel key velocity) tt
    by (Some h) e = rw (struck-some b bank program h e channel key velocity) (voices-each b (admitted-rules b ok) Q h channel key velocity (each h) (preset-in b bank program h e))

-- every voice that an admitted bank starts is good
pub struck-good : (b : List ℕ) → admitted b ≡ true → (bank program channel key velocity : ℕ) → All (GoodVoice channel key velocity) (struck_voices b bank program channel key velocity)
struck-good b ok bank program channel key velocity =
    struck-each b ok (GoodVoice channel key velocity) bank program channel key velocity (λ h l s. good-voice b (admitted-rules b ok) h channel key velocity l s)

-- and ends within its memory, where no window past its memory is found
pub struck-inside : (b : List ℕ) (ram rom : ℕ) → admitted b ≡ true → past_memory b ram rom ≡ None → (bank program channel key velocity : ℕ) → All (Inside ram rom) (struck_voices b bank program channel key velocity)
struck-inside b ram rom ok none bank program channel key velocity =
    struck-each b ok (Inside ram rom) bank program channel key velocity (λ h l s. inside-voice b (admitted-rules b ok) ram rom ok none h channel key velocity l s)
