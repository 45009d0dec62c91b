-- `keeping::keep` meets its contract.
-- Assumes nothing.
use Rattle.keeping.proofs.Keeping.{keep_writable, kept_to, kept_full, kept_unformed, kept_barred}
use Rattle.keeping.proofs.keep.Goals as goal

pub write_whole-r-requires : goal.write_whole-r-requires
write_whole-r-requires c = keep_writable _ c.args.t.at c.in-Formed.e c.requires c.part_of.ensures

pub returns-in-Upto : goal.returns-in-Upto
returns-in-Upto c h k = kept_to _ k c.form_at-f.ensures c.in-Formed.is c.part_of.ensures _ _ c.write_whole-r.ensures c.in-Upto.is c.set_by-x.ensures

pub returns-in-Full : goal.returns-in-Full
returns-in-Full c h k = kept_full _ k c.form_at-f.ensures c.in-Formed.is c.part_of.ensures _ _ c.write_whole-r.ensures c.in-Full.is

pub returns-in-Unformed : goal.returns-in-Unformed
returns-in-Unformed c h k = kept_unformed _ k c.form_at-f.ensures c.in-Unformed.is

pub returns-in-Barred : goal.returns-in-Barred
returns-in-Barred c h k = kept_barred _ k c.form_at-f.ensures _ _ c.in-Barred.is
