use Rattle.std.proofs.lemmas.Result.{err_from_is_err_and}
use Rattle.forms.proofs.Entries.{few_words}
use Rattle.forms.proofs.Once.{once}
use Rattle.forms.proofs.Readings.{same_call, same_fault, one_line, fault_place}
use Rattle.forms.proofs.Runs.{all_runs}
use Rattle.forms.proofs.reader.read.Goals as goal

pub new-requires : goal.new-requires
new-requires c =
    let r = c.in_ok-call.ensures in
    rw r.1 (few_words _ _ r.0.fits)

pub returns : goal.returns
returns c = record {
  value = same_call _ _ _ c.in_ok-call.ensures;
  words = c.new.ensures;
  runs = all_runs c.args.line.now;
  line = one_line c.args.opened;
  call = once c.args.opened;
  place = fault_place c.args.opened;
}

pub returns-in_err-call : goal.returns-in_err-call
returns-in_err-call c =
    let p = err_from_is_err_and c.from_residual.result c.from_residual.ensures.1 in
    record {
      value = rw (p.1, p.2) (same_fault _ _ _ c.in_err-call.ensures);
      words = rw p.1 tt;
      runs = all_runs c.args.line.now;
      line = one_line c.args.opened;
      call = once c.args.opened;
      place = fault_place c.args.opened;
    }
