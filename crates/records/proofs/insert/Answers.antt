-- `records::insert` meets its contract. Assumes nothing.
use Rattle.records.specs.Records.{no_record}
use Rattle.records.proofs.Shift.{put_in}
use Rattle.records.proofs.insert.Goals as goal

pub returns : goal.returns
returns c = put_in no_record c.args.records.now c.args.n c.args.at c.copy_within.new.self c.args.r c.requires.1 c.requires.0 c.copy_within.ensures.after
