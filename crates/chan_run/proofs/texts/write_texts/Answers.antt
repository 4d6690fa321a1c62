use Rattle.chan_run.proofs.Endings.{written_if_sound}
use Rattle.chan_run.proofs.texts.write_texts.Goals as goal

pub returns-in-None-clause-said : goal.returns-in-None-clause-said
returns-in-None-clause-said g c =
    let said = c.write_each.ensures in
    (λ sound. written_if_sound c.write_each.result c.write_each.new.to.failed said.ok said.fault sound, said.prefix)
