-- `writing::write` meets its contract: what was measured decides, proofs/Answers.antt. Assumes nothing.
use Rattle.std.specs.Prelude.{Ok}
use Rattle.std.proofs.Common.{◌≡◌, length, sym, ◌∙◌}
use Rattle.std.proofs.lemmas.Result.{err_from_is_err_and}
use Rattle.items.specs.Listing.{listed}
use Rattle.lists.specs.Inner.{measured_of}
use Rattle.lists.proofs.Answers.{writes_wrong, writes_long, writes_full, writes_done, fits_there}
use Rattle.lists.proofs.writing.write.Goals as goal
use Rattle.lists.proofs.writing.write.Goals.{In_ok-len, then-len-gt-LONGEST-via-then-len-gt-LONGEST, then-len-gt-LONGEST-via-else-len-gt-LONGEST+then-out-len}

measured : (c : In_ok-len) → Ok c.in_ok-len.len ≡ measured_of (listed c.args.list.now c.args.text.now)
measured c = sym c.in_ok-len.was ∙ c.measure.ensures

pub returns-in_err-len : goal.returns-in_err-len
returns-in_err-len c =
    let a = c.args in
    let p = err_from_is_err_and c.from_residual.result c.from_residual.ensures.1 in
    rw (p.1, p.2) (writes_wrong a.list.now a.text.now a.out.now _ (sym c.in_err-len.was ∙ c.measure.ensures))

pub returns-then-len-gt-LONGEST : goal.returns-then-len-gt-LONGEST
returns-then-len-gt-LONGEST c =
    let a = c.args in let e = measured (goal.at.returns-then-len-gt-LONGEST c).In_ok-len in rw c.met_at.ensures (elim c.then-len-gt-LONGEST.branch [
      | then-len-gt-LONGEST-via-then-len-gt-LONGEST w ↦ writes_long a.list.now a.text.now a.out.now _ e w.if-len-gt-LONGEST.true
      | then-len-gt-LONGEST-via-else-len-gt-LONGEST+then-out-len w ↦ writes_full a.list.now a.text.now a.out.now _ e w.if-len-gt-LONGEST.false w.if-out-len.true
    ])

pub put_all-requires : goal.put_all-requires
put_all-requires c =
    let a = c.args in
    fits_there (listed a.list.now a.text.now) (length a.out.now) _ (measured (goal.at.put_all-requires c).In_ok-len) c.if-len-gt-LONGEST.false
    c.if-out-len.false

pub returns : goal.returns
returns c =
    let a = c.args in
    writes_done a.list.now a.text.now a.out.now _ _ (measured (goal.at.returns c).In_ok-len) c.if-len-gt-LONGEST.false c.if-out-len.false c.put_all.ensures
