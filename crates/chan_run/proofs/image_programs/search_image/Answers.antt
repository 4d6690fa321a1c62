use Rattle.std.proofs.Common.{inl, refl, rules}
use Rattle.chan_run.proofs.image_programs.search_image.Goals as goal

pub returns-in-Ok-clause-answer : goal.returns-in-Ok-clause-answer
returns-in-Ok-clause-answer g c =
    let searched = rw c.as_slice.ensures.value at c.write_programs.ensures in
    inl (record {
      image = c.in-Ok.image.bytes.items;
      input = c.in-Ok.ensures.ok;
      outcome = c.write_programs.result.0;
      found = searched.answer;
      note = c.write_programs.result.1.now;
      noted = searched.note;
      is = record { outcome = refl; output = search rules; note = refl };
    })
