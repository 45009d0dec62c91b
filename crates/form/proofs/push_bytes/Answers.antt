-- `form::push_bytes` meets its contract.
-- Assumes nothing.
use mathlib.Core.Path.{refl}
use native.Mathlib.Omega.{arith}
use Rattle.std.proofs.lemmas.Slice.{take-put_mid}
use Rattle.form.proofs.push_bytes.Goals as goal

pub returns : goal.returns
returns c =
    record {
      count = refl;
      fits = omega arith;
      bytes = rw c.copy_from_slice.ensures.after (take-put_mid _ _ _ _ _ refl c.requires);
    }
