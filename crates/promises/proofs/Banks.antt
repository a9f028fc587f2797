-- Voices that calls start: what every one of them has, as its bank and its call say.
use Rattle.std.specs.Prelude.{Option, None, Some}
use Prim.Native.Nat.{ℕ, ◌≤◌, ◌+◌}
use mathlib.Core.Path.{◌≡◌, subst, refl, sym}
use mathlib.Core.Bool.{false, true, Bool, cond}
use mathlib.Core.List.{List, [], ◌∷◌, map}
use mathlib.Core.Logic.{inl, inr, ⊎_elim}
use borrow.Author.Tests.{eqb-true, eqb-false, eq-eqb}
use lib.Dec.{eqb}
use lib.IntN.{ℤ, ◌+ℤ◌}
use lib.ListN.{take}
use Rattle.voice.specs.declared.Voice.{Voice}
use Rattle.voice.specs.Stages.{waiting}
use Rattle.events.specs.Striking.{Bank, bank_from, layer_voices}
use Rattle.promises.proofs.EachSlot.{Among}
use Rattle.arith.specs.Within.{Within}
use Rattle.arith.proofs.HoldsLaws.{held-within}
use Rattle.records.specs.Sides.{parts_of}
use Rattle.records.specs.declared.Parts.{Parts}
use Rattle.totals.specs.Values.{instrument_only, held_total, total_of, total}
use Rattle.totals.specs.declared.Layer.{Layer}
use Rattle.layers.specs.declared.Pair.{Pair}
use Rattle.layers.specs.LayerSearch.{layer_of, layers_of, preset_for}
use Rattle.layers.specs.Voicing.{voice_by, voice_of, voices_of, struck_voices}
use Rattle.layers.proofs.StruckLaws.{struck-none, struck-some}
use Rattle.layers.proofs.AdmittedVoices.{All, GoodVoice, struck-good}
use Rattle.promises.specs.Calls.{Call, channel_of, does, begun}
use Rattle.state.specs.declared.Engine.{Engine}
use Rattle.promises.proofs.Demand1.{rules-admit, note-on-numbers}
use Rattle.curves.proofs.TimesLaws.{frames-most}
use Rattle.promises.specs.Night.{strikes}
use Rattle.promises.specs.Calls as Calls

-- a voice as it is made: at place 0, in its delay, its pan held, and with a release of at most so many frames
pub record Made (u : Voice) : Type 0 where
  pub place : u.place ≡ 0
  pub waits : waiting u.stage ≡ true
  pub pan : Within u.pan 500
  pub release : u.release ≤ 4480280

-- the total of generator 17 is held
pan-held : (own added : ℤ) → Within (total_of 17 own added) 500
unfolding total_of held_total
pan-held own added = held-within (cond (instrument_only 17) own (own +ℤ added)) 499

-- the voice of a layer is made so
layer-made : (b : List ℕ) (m : Parts) (l : Layer) (c k v : ℕ) → Made (voice_by b m l c k v)
unfolding voice_by total
layer-made b m l c k v = record { place = refl; waits = refl; pan = pan-held _ _; release = frames-most _ }

-- and each voice of a preset
preset-made : (b : List ℕ) (h c k v : ℕ) → All Made (voices_of b (parts_of b) h c k v)
unfolding voices_of voice_of
preset-made b h c k v = each (take 33 (layers_of b (parts_of b) k v h))
  where
    each : (ps : List Pair) → All Made (map (voice_of b (parts_of b) h c k v) ps)
    each [] = tt
    each (p ∷ ps) = (layer-made b (parts_of b) (layer_of b (parts_of b) h p) c k v, each ps)

-- and each that a key starts
struck-made : (b : List ℕ) (bank program c k v : ℕ) → All Made (struck_voices b bank program c k v)
struck-made b bank program c k v = by (preset_for b (parts_of b) bank program) refl
  where
    by : (f : Option ℕ) → preset_for b (parts_of b) bank program ≡ f → All Made (struck_voices b bank program c k v)
    by None e = rw (struck-none b bank program e c k v) tt
    by (Some h) e = rw (struck-some b bank program h e c k v) (preset-made b h c k v)

-- a voice that begins, struck with channel, key and velocity
pub record Begins (c k v : ℕ) (u : Voice) : Type 0 where
  pub good : GoodVoice c k v u
  pub made : Made u

-- all voices of an admitted bank begin so
abbrev pub Sound : Bank → Type 0
Sound b = b.admitted ≡ true → (bank program c k v : ℕ) (u : Voice) → Among u (b.voices bank program c k v) → Begins c k v u

all_sound : (b : List ℕ) → Sound (bank_from b)
unfolding bank_from
all_sound b ok bank program c k v u a =
    one (struck_voices b bank program c k v) (struck-good b ok bank program c k v) (struck-made b bank program c k v) a
  where
    one : (us : List Voice) → All (GoodVoice c k v) us → All Made us → Among u us → Begins c k v u
    one [] g m a = absurd a
    one (w ∷ us) g m (inl q) = subst (λ (y : Voice). Begins c k v y) q (record { good = g.0; made = m.0 })
    one (w ∷ us) g m (inr a) = one us g.1 m.1 a

-- channel, key and velocity are its own
as-struck : {c k v : ℕ} {u : Voice} → GoodVoice c k v u → GoodVoice u.channel u.key u.velocity u
as-struck {c} {k} {v} {u} g =
    subst (λ (n : ℕ). GoodVoice n u.key u.velocity u) (sym g.channel-is)
    (subst (λ (n : ℕ). GoodVoice c n u.velocity u) (sym g.key-is) (subst (λ (n : ℕ). GoodVoice c k n u) (sym g.velocity-is) g))

-- a voice that a call has started
pub record Came (x : Call) (u : Voice) : Type 0 where
  pub good : GoodVoice u.channel u.key u.velocity u
  pub made : Made u
  pub channel : u.channel ≡ channel_of x
  pub small : u.channel ≤ 15
  pub key : u.key ≤ 127
  pub velocity : u.velocity ≤ 127
  pub struck : strikes u.channel u.key x ≡ true

-- each of them, by its bank and its call
pub came : (x : Call) (e : Engine) (u : Voice) → Among u (begun x e) → Came x u
came (Calls.NoteOn b ram rom c k v) e u a = by (eqb status 0) refl (eqb v 0) refl a
  where
    status : ℕ
    status = (does (Calls.NoteOn b ram rom c k v) e).status

    by : (s : Bool) → eqb status 0 ≡ s → (z : Bool) → eqb v 0 ≡ z → Among u (cond s (cond z [] (layer_voices (bank_from b) c k v e)) []) → Came (Calls.NoteOn b ram rom c k v) u
    by false h z q a = absurd a
    by true h true q a = absurd a
    by true h false q a =
        ⊎_elim (λ y. absurd (eqb-false v 0 q y.2))
        (λ y. let n = all_sound b (rules-admit b y.1) _ _ c k v u a in
        let g = n.good in
        record {
          good = as-struck g;
          made = n.made;
          channel = g.channel-is;
          small = rw g.channel-is y.0.0;
          key = rw g.key-is y.0.1;
          velocity = rw g.velocity-is y.0.3;
          struck = rw (q, eq-eqb c u.channel (sym g.channel-is), eq-eqb k u.key (sym g.key-is)) refl;
        })
        ((note-on-numbers b ram rom c k v e).done.0 (eqb-true status 0 h))
came (Calls.NoteOff c k) e u a = absurd a
came (Calls.Control c n v) e u a = absurd a
came (Calls.Program c p) e u a = absurd a
came (Calls.Bend c b) e u a = absurd a
came (Calls.Render to ram rom out) e u a = absurd a
came (Calls.Ask i) e u a = absurd a
