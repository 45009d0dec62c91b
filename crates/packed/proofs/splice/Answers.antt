-- `packed::splice` meets its contract. The move, the copy and the clearing make `spliced`. Assumes nothing.
use Rattle.std.proofs.Common.{arith, refl}
use Rattle.std.proofs.lemmas.Slice.{put_mid-paste}
use Rattle.packed.proofs.Splices.{spliced_made}
use Rattle.packed.proofs.splice.Goals as goal

pub returns : goal.returns
returns c =
    spliced_made 0 c.args.b.now c.copy_within.new.self _ c.clear.new.b c.args.form.now c.args.at c.args.old c.args.live (omega arith) (omega arith) (omega arith)
    c.copy_within.ensures.after (put_mid-paste _ _ _ _ _ _ c.copy_from_slice.ensures.after (omega arith) refl) c.clear.ensures
