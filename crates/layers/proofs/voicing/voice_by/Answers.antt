-- `voice_by` meets its contract.
use borrow.Author.Rules.{sfits_of}
use mir.Facts.{to_z-of_z}
use mir.Syntax.{w16, w32}
use Rattle.layers.proofs.VoicingLaws.{voice-in}
use Rattle.layers.proofs.voicing.voice_by.Goals as goal

pub returns : goal.returns
returns c = let envelope = c.envelope_of-envelope in
    let tuning = c.tuning_of-tuning in
    let extent = c.extent_of-extent in
    let a = c.args in
    let pitch = to_z-of_z {w = w32} {z = tuning.result.pitch} (sfits_of tuning.type_inv.1.1.1.0.1) in
    let pan = to_z-of_z {w = w16} {z = tuning.result.pan} (sfits_of tuning.type_inv.1.1.1.1.0.1) in
    let attenuation = to_z-of_z {w = w32} {z = tuning.result.attenuation} (sfits_of tuning.type_inv.1.1.1.1.1.0.1) in
    rw (pitch, pan, attenuation, envelope.ensures, tuning.ensures, extent.ensures, c.from-k.ensures, c.of-values.ensures.added, c.of-values.ensures.own)
    (voice-in a.b.now a.m a.l a.channel a.key a.velocity)
