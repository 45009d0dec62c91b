-- `definition::given_formal` meets its contract. What is known of the default's end goes through the definition.
-- Assumes nothing.
use Rattle.std.proofs.lemmas.Result.{err_from_is_err_and}
use Rattle.definition.proofs.Defaults.{given_upto, given_err}
use Rattle.definition.proofs.given_formal.Goals as goal

pub returns-in_err-stop : goal.returns-in_err-stop
returns-in_err-stop c =
    let p = err_from_is_err_and c.from_residual.result c.from_residual.ensures.1 in
    rw (p.1, p.2) (given_err c.args.s.now c.args.t c.args.at c.in_err-stop.ensures)

pub returns : goal.returns
returns c = given_upto c.args.s.now c.args.t c.args.at c.in_ok-stop.ensures c.peek.ensures
