-- Each kind by its own call.
use Rattle.std.proofs.Common.{ℕ, sym, ap, ◌∙◌, ap₂, ne_eqb}
use Rattle.events.specs.Keys.{note_off}
use Rattle.events.specs.Striking.{note_on, bank_from}
use Rattle.events.specs.Controls.{control_change}
use Rattle.events.specs.Programs.{program_change}
use Rattle.events.specs.Bends.{pitch_bend}
use Rattle.player.specs.Acting.{heeded_as}
use Rattle.player.proofs.acting.heed.Goals as goal

pub returns-in-8 : goal.returns-in-8
unfolding heeded_as
returns-in-8 c = let a = c.args in
    c.note_off.ensures ∙ ap (λ (n : ℕ). note_off n a.v.first a.e.now) c.channel_in-channel.ensures ∙ sym (ap (λ (k : ℕ). heeded_as k a.bank.now a.ram.now a.rom.now a.v a.e.now) (sym c.kind_of.ensures ∙ c.in-8.is))

pub returns-in-9 : goal.returns-in-9
unfolding heeded_as
returns-in-9 c = let a = c.args in
    c.note_on.ensures ∙ ap (λ (n : ℕ). note_on (bank_from a.bank.now) a.ram.now a.rom.now n a.v.first a.v.second a.e.now) c.channel_in-channel.ensures ∙ sym (ap (λ (k : ℕ). heeded_as k a.bank.now a.ram.now a.rom.now a.v a.e.now) (sym c.kind_of.ensures ∙ c.in-9.is))

pub returns-in-11 : goal.returns-in-11
unfolding heeded_as
returns-in-11 c = let a = c.args in
    c.control_change.ensures ∙ ap (λ (n : ℕ). control_change n a.v.first a.v.second a.e.now) c.channel_in-channel.ensures ∙ sym (ap (λ (k : ℕ). heeded_as k a.bank.now a.ram.now a.rom.now a.v a.e.now) (sym c.kind_of.ensures ∙ c.in-11.is))

pub returns-in-12 : goal.returns-in-12
unfolding heeded_as
returns-in-12 c = let a = c.args in
    c.program_change.ensures ∙ ap (λ (n : ℕ). program_change n a.v.first a.e.now) c.channel_in-channel.ensures ∙ sym (ap (λ (k : ℕ). heeded_as k a.bank.now a.ram.now a.rom.now a.v a.e.now) (sym c.kind_of.ensures ∙ c.in-12.is))

pub returns-in-14 : goal.returns-in-14
unfolding heeded_as
returns-in-14 c = let a = c.args in
    c.pitch_bend.ensures ∙ ap₂ (λ (n x : ℕ). pitch_bend n x a.e.now) c.channel_in-channel.ensures c.bend_in.ensures ∙ sym (ap (λ (k : ℕ). heeded_as k a.bank.now a.ram.now a.rom.now a.v a.e.now) (sym c.kind_of.ensures ∙ c.in-14.is))

pub returns-in_default : goal.returns-in_default
unfolding heeded_as
returns-in_default c = let a = c.args in
    let k = c.kind_of.result in
    let r = c.in_default.in_default-own.rest in
    (simp (ne_eqb k 8 r.0.0.0.0.1, ne_eqb k 9 r.0.0.0.1, ne_eqb k 11 r.0.0.1, ne_eqb k 12 r.0.1, ne_eqb k 14 r.1))
    ∙ ap (λ (k : ℕ). heeded_as k a.bank.now a.ram.now a.rom.now a.v a.e.now) c.kind_of.ensures
