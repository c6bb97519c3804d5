use Rattle.std.proofs.Common.{refl}
use Rattle.std.proofs.lemmas.Result.{err_from_is_err_and}
use Rattle.wiring.proofs.Spelled.{read_spelling, refused_unspelled, file_read, file_refused}
use Rattle.wiring.proofs.cables.CableList.read.Goals as goal

pub returns-in_err-self : goal.returns-in_err-self
returns-in_err-self c =
    let p = err_from_is_err_and c.from_residual.result c.from_residual.ensures.1 in
    let e = c.in_err-self.ensures in
    record {
      answer = rw (p.1, p.2) (file_refused c.args.bytes.now _ e, refl);
      spelled = rw p.1 (refused_unspelled c.args.bytes.now _ e);
    }

pub returns : goal.returns
returns c =
    let e = c.in_ok-self.ensures in
    rw (e.0) (record {
      answer = file_read c.args.bytes.now _ e.1;
      spelled = read_spelling c.args.bytes.now _ e.1;
    })
