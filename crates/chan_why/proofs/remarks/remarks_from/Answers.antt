use Rattle.chan_why.proofs.Names.{reached_looks, subst, sym, List, ℕ}
use Rattle.chan_why.specs.Notes.{AreAddressesOf, ends_there, interrupts}
use Rattle.chan_why.proofs.remarks.remarks_from.Goals as goal

pub returns : goal.returns
returns c = λ j is.
    let s = c.args.survey.now in
    let seen = reached_looks j s.looks c.looks-looks.result.now s.found_from is.found c.looks-looks.ensures in
    record {
      hangs = c.in_ok-hangs.ensures j is;
      interrupts = c.first_address.ensures interrupts j
          (subst (λ (l : List ℕ). AreAddressesOf interrupts j l) (sym c.as_slice.ensures.value) (c.in_ok-interrupting.ensures j seen.0 seen.1));
      ends_chaining = c.first_address-2.ensures ends_there j
          (subst (λ (l : List ℕ). AreAddressesOf ends_there j l) (sym c.as_slice-2.ensures.value) (c.in_ok-ending.ensures j seen.0 seen.1));
    }
