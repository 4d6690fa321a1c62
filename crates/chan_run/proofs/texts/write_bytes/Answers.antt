use Rattle.chan_run.proofs.Endings.{written_if_sound}
use Rattle.chan_run.proofs.texts.write_bytes.Goals as goal

pub returns-clause-said : goal.returns-clause-said
returns-clause-said g c =
    let said = c.write_out.ensures in
    (λ sound. written_if_sound c.write_out.result c.write_out.new.to.failed said.ok said.fault sound, said.prefix)
