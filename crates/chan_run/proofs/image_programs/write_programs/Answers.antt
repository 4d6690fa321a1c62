use Rattle.std.proofs.Common.{◌≡◌, ◌++◌, add-one, inr, rules, string_bytes, suc}
use Rattle.std.proofs.KnownBytes.{Appends-trans}
use Rattle.std.specs.Io.KnownBytes.{Appends}
use Rattle.ccw_core.proofs.Prefixes.{prefix_after}
use Rattle.ccw_core.specs.Held.{bytes_held}
use Rattle.chan_deck.specs.PartsValue.{storage_with}
use Rattle.chan_run.specs.declared.image_programs.TheConstants.{PLACES_JUDGED}
use Rattle.chan_run.proofs.FoundLemmas.{lines_more, starts_over}
use Rattle.chan_run.proofs.image_programs.write_programs.Goals as goal

pub loop-start-preserved : goal.loop-start-preserved
loop-start-preserved g c =
    let o = c.args.options.now in
    let image = c.args.image.now in
    let held : bytes_held c.unwrap-storage.result ≡ storage_with o.at image = search rules in
    let (sound, (text, lines, app)) = c.loop-start.invariant in
    let line = string_bytes c.in-Ok-line.line in
    let at = c.in-Ok-line.ensures image held in
    let more : Appends (g.W.Write.contents c.loop-start.to.device) (g.W.Write.contents c.write_out.new.to.device) line = search rules in (
      search rules,
      (
        text ++ line,
        rw add-one
            (lines_more o image c.as_slice-start-items.result.now c.loop-start.start-index 0 PLACES_JUDGED _ _ text line c.loop-start-test.true lines at),
        Appends-trans _ _ _ text line app more,
      ),
    )

pub returns-then-is_err-clause-answer : goal.returns-then-is_err-clause-answer
returns-then-is_err-clause-answer g c =
    let o = c.args.options.now in
    let image = c.args.image.now in
    let held : bytes_held c.unwrap-storage.result ≡ storage_with o.at image = search rules in
    let starts = c.as_slice-start-items in
    let (sound, (text, lines, app)) = c.loop-start.invariant in
    let line = string_bytes c.in-Ok-line.line in (
      starts.result.now,
      starts_over o image _ _ _ held starts.ensures.value c.in-Ok-program_starts.ensures,
      suc c.loop-start.start-index,
      record {
        text = text ++ line;
        after = c.program_line-line.new.left;
        lines = lines_more o image starts.result.now c.loop-start.start-index 0 PLACES_JUDGED _ _ text line c.loop-start-test.true lines
            (c.in-Ok-line.ensures image held);
        written = prefix_after _ _ _ text line app (rw c.as_bytes.ensures.value at c.write_out.ensures.prefix);
      },
    )

pub returns-in_default-line-clause-answer :
    goal.returns-in_default-line-clause-answer
returns-in_default-line-clause-answer g c =
    let o = c.args.options.now in
    let image = c.args.image.now in
    let held : bytes_held c.unwrap-storage.result ≡ storage_with o.at image = search rules in
    let starts = c.as_slice-start-items in
    let (sound, (text, lines, app)) = c.loop-start.invariant in
    inr (
      starts.result.now,
      starts_over o image _ _ _ held starts.ensures.value c.in-Ok-program_starts.ensures,
      c.loop-start.start-index,
      record { text = text; after = c.loop-start.left; lines = lines; written = app },
    )
