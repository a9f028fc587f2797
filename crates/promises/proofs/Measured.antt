-- Sums and numbers of one engine: what a render writes is what its sums say, and they are poured alike.
use Prim.Native.Nat.{ℕ, ◌+◌, ◌*◌, ◌%◌}
use mathlib.Core.Bool.{Bool, true, false, cond, ◌||◌, or-false}
use mathlib.Core.Path.{◌≡◌, refl, ap, ap₂, sym, ◌∙◌}
use mathlib.Core.List.{List, [], ◌∷◌, ◌++◌, map}
use mathlib.Core.Logic.{inr}
use native.Mathlib.Omega.{arith}
use borrow.Author.Tests.{eqb-true, eqb-false}
use lib.Dec.{eqb, ltb}
use lib.IntN.{ℤ, pos, negsuc}
use lib.ListN.{length, take, drop, length-append, length-drop, length-map}
use lib.Seq.{take_at, drop_at}
use lib.Ieee.{Float}
use Rattle.arith.specs.Floors.{mod_z}
use Rattle.arith.specs.Holds.{held_to}
use Rattle.arith.specs.Lists.{any_of}
use Rattle.curves.specs.Levels.{gain_of}
use Rattle.state.specs.declared.Engine.{Engine}
use Rattle.engine.specs.Mixer.{mixed}
use Rattle.engine.specs.Rendering.{distance, render, render_number}
use Rattle.engine.specs.Summing.{sums_of, summed}
use Rattle.engine.proofs.RenderingLaws.{zero-low}
use Rattle.engine.proofs.SummingLaws.{mixed-is-output, sums-length}
use Rattle.wave.specs.Headings.{in_two}
use Rattle.wave.specs.Lowering.{poured_sums, sum_word, sums_into, sums_number}
use Rattle.wave.specs.Pcm.{is_output, k_of, pcm_of, pcm_of_k}
use Rattle.wave.specs.Pours.{is_broken, is_other, pcm_bytes, poured_into, poured_of, pour_number}
use Rattle.wave.proofs.FractionsLaws.{output-passes}
use Rattle.wave.proofs.HeadroomLaws.{zero-keeps}
use Rattle.promises.specs.Calls.{Render, does, written}
use Rattle.promises.specs.Measured.{SumsPourAlike, SumsTellTheSame, TellsTheSame, given_count, given_numbers, given_sums}
use Rattle.promises.proofs.Cuts.{no_frames, done-frames, done-numbers}
use Rattle.promises.proofs.Output.{mixed-fraction}

-- ---- the bytes of sums and of numbers

-- a mixed sum is an output number, and its k is the sum, held
mixed-is : (z : ℤ) → (is_output (mixed z) ≡ true) × (k_of (mixed z) ≡ held_to (negsuc 8388607) (pos 8388608) z)
mixed-is z =
    let f = mixed-fraction z in
    output-passes (mixed z) (held_to (negsuc 8388607) (pos 8388608) z) (record { sign = _; value = f.exact.value; small = f.within; signed = inr refl })

same_bytes : (z : ℤ) → in_two (sum_word (gain_of 0) z) ≡ pcm_bytes (mixed z)
unfolding sum_word pcm_of
same_bytes z =
    ap (λ (k : ℤ). in_two (mod_z (pcm_of_k k) 65536))
    (ap (held_to (negsuc 8388607) (pos 8388608)) (zero-keeps z) ∙ sym (mixed-is z).1)

all-bytes : (zs : List ℤ) → poured_sums (gain_of 0) zs ≡ poured_of (map mixed zs)
unfolding poured_sums poured_of
all-bytes [] = refl
all-bytes (z ∷ zs) = ap₂ (λ (a b : List ℕ). a ++ b) (same_bytes z) (all-bytes zs)

all-clean : (zs : List ℤ) → any_of is_other (map mixed zs) ≡ false
all-clean [] = refl
all-clean (z ∷ zs) = rw (mixed-is z).0 (all-clean zs)

broken-is : (zs : List ℤ) → is_broken (map mixed zs) ≡ eqb (length zs % 2) 1
unfolding is_broken
broken-is zs =
    ap₂ (λ (n : ℕ) (b : Bool). eqb (n % 2) 1 || b) (length-map zs mixed) (all-clean zs) ∙ or-false (eqb (length zs % 2) 1)

same_number : (zs : List ℤ) (room : ℕ) → sums_number zs room ≡ pour_number (map mixed zs) room
unfolding sums_number pour_number
same_number zs room =
    sym (ap₂ (λ (b : Bool) (n : ℕ). cond b 13 (cond (ltb room (2 * n)) 15 0)) (broken-is zs) (length-map zs mixed))

poured-alike : (zs : List ℤ) (bytes : List ℕ) → sums_into 0 zs bytes ≡ poured_into (map mixed zs) bytes
unfolding sums_into poured_into
poured-alike zs bytes =
    ap₂ (λ (n : ℕ) (o : List ℕ). cond (eqb n 0) o bytes) (same_number zs (length bytes))
    (ap₂ (λ (o : List ℕ) (n : ℕ). o ++ drop (2 * n) bytes) (all-bytes zs) (sym (length-map zs mixed)))

-- ---- the two calls

module _ (to : ℕ) (ram rom : List ℤ) (e : Engine) (out : List Float) (sums : List ℤ) (same : length sums ≡ length out) where
  answers : render to ram rom (length sums) e ≡ does (Render to ram rom out) e
  answers = ap (λ (room : ℕ). render to ram rom room e) same

  numbered : render_number to ram rom (length sums) e ≡ render_number to ram rom (length out) e
  numbered = ap (λ (room : ℕ). render_number to ram rom room e) same

  -- done
  module _ (q : render_number to ram rom (length out) e ≡ 0) where
    status : (does (Render to ram rom out) e).status ≡ 0
    unfolding render
    status = rw q refl

    frames : given_count to ram rom e out sums ≡ 2 * distance e to
    frames = ap (λ (k : ℕ). 2 * k) (done-frames to ram rom out e status)

    holds : summed to ram rom sums e ≡ sums_of ram rom e (distance e to) ++ drop (2 * distance e to) sums
    unfolding summed
    holds = rw (numbered, q) refl

    front : given_sums to ram rom e out sums ≡ sums_of ram rom e (distance e to)
    front =
        ap₂ (λ (k : ℕ) (l : List ℤ). take k l) frames holds
        ∙ take_at (sums_of ram rom e (distance e to)) (drop (2 * distance e to) sums) (2 * distance e to) (sums-length ram rom e (distance e to))

    alike : given_numbers to ram rom e out sums ≡ map mixed (given_sums to ram rom e out sums)
    alike =
        ap (λ (k : ℕ). take k (written (Render to ram rom out) e)) frames
        ∙ done-numbers to ram rom out e status ∙ sym (mixed-is-output ram rom e (distance e to)) ∙ ap (map mixed) (sym front)

    room : 2 * distance e to + length (drop (2 * distance e to) sums) ≡ length sums
    room = simp length-drop (omega (arith, same, (zero-low to ram rom (length out) e q).1))

    tells : TellsTheSame to ram rom e out sums
    tells =
        record {
          answer = answers;
          numbers = alike;
          long = ap length holds ∙ length-append (sums_of ram rom e (distance e to)) (drop (2 * distance e to) sums)
              ∙ ap (λ (k : ℕ). k + length (drop (2 * distance e to) sums)) (sums-length ram rom e (distance e to)) ∙ room;
          behind = ap₂ (λ (k : ℕ) (l : List ℤ). drop k l) frames holds
              ∙ drop_at (sums_of ram rom e (distance e to)) (drop (2 * distance e to) sums) (2 * distance e to) (sums-length ram rom e (distance e to))
              ∙ ap (λ (k : ℕ). drop k sums) (sym frames);
          refused = λ no. absurd (no status);
        }

  -- refused
  module _ (q : eqb (render_number to ram rom (length out) e) 0 ≡ false) where
    not_done : (does (Render to ram rom out) e).status ≡ 0 → ⊥
    unfolding render
    not_done = rw q (eqb-false (render_number to ram rom (length out) e) 0 q)

    none : given_count to ram rom e out sums ≡ 0
    none = ap (λ (k : ℕ). 2 * k) (no_frames (Render to ram rom out) e not_done)

    stays : summed to ram rom sums e ≡ sums
    unfolding summed
    stays = rw (numbered, q) refl

    tells-refused : TellsTheSame to ram rom e out sums
    tells-refused =
        record {
          answer = answers;
          numbers = ap (λ (k : ℕ). take k (written (Render to ram rom out) e)) none
              ∙ sym (ap (λ (k : ℕ). map mixed (take k (summed to ram rom sums e))) none);
          long = ap length stays;
          behind = ap (drop (given_count to ram rom e out sums)) stays;
          refused = λ no. stays;
        }

pub sums-tell-the-same : SumsTellTheSame
sums-tell-the-same to ram rom e out sums same = by (eqb (render_number to ram rom (length out) e) 0) refl
  where
    by : (t : Bool) → eqb (render_number to ram rom (length out) e) 0 ≡ t → TellsTheSame to ram rom e out sums
    by true q = tells to ram rom e out sums same (eqb-true (render_number to ram rom (length out) e) 0 q)
    by false q = tells-refused to ram rom e out sums same q

pub sums-pour-alike : SumsPourAlike
sums-pour-alike to ram rom e out sums bytes same =
    let zs = given_sums to ram rom e out sums in
    let numbers = (sums-tell-the-same to ram rom e out sums same).numbers in (
      same_number zs (length bytes) ∙ ap (λ (xs : List Float). pour_number xs (length bytes)) (sym numbers),
      poured-alike zs bytes ∙ ap (λ (xs : List Float). poured_into xs bytes) (sym numbers),
    )
