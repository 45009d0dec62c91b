-- `steps::putting::write_place_word` meets its contract.
-- Assumes nothing.
use mathlib.Core.Path.{ap}
use native.Mathlib.Omega.{arith}
use Rattle.turns.specs.Performing.{perform}
use Rattle.steps.specs.Standing.{bufs, here_of}
use Rattle.steps.proofs.Going.{as_act, refuses}
use Rattle.steps.proofs.PlaceWords.{name_fits, front_is, file_written, line_written, refused_at}
use Rattle.steps.proofs.putting.write_place_word.Goals as goal

pub quote-n-requires : goal.quote-n-requires
quote-n-requires c = name_fits _ _ _ _ c.args.quoted.now c.name_at.ensures c.requires.entries c.requires.file_in c.requires.quoted_lent

pub returns-then-d-eq-FILE_WORD : goal.returns-then-d-eq-FILE_WORD
returns-then-d-eq-FILE_WORD c = λ set limit bs rs fr cd a x ms f o h. as_act c.write_word.result _ _ _ _ _ ms _ (here_of x limit (bufs c.args.text.now c.args.map.now bs rs fr cd) ms c.args.z) (file_written limit ms c.args.z f c.args.d _ _ c.if-d-eq-FILE_WORD.true c.name_at.ensures (front_is _ c.quote-n.result _ _ c.quote-n.ensures.0 c.part_of.ensures)) (c.write_word.ensures _ _ set limit bs rs fr cd a x ms f o h)

pub returns-then-d-eq-LINE_WORD : goal.returns-then-d-eq-LINE_WORD
returns-then-d-eq-LINE_WORD c = λ set limit bs rs fr cd a x ms f o h. as_act c.write_word-then-d-eq-LINE_WORD.result _ _ _ _ _ ms _ (here_of x limit (bufs c.args.text.now c.args.map.now bs rs fr cd) ms c.args.z) (line_written limit ms c.args.z f c.args.d _ c.if-d-eq-FILE_WORD.false c.if-d-eq-LINE_WORD.true (front_is _ c.write_digits-n.result _ _ c.write_digits-n.ensures.0 c.part_of-then-d-eq-LINE_WORD.ensures)) (c.write_word-then-d-eq-LINE_WORD.ensures _ _ set limit bs rs fr cd a x ms f o h)

pub returns : goal.returns
returns c = λ set limit bs rs fr cd a x ms f o h. refuses _ _ _ _ ms c.args.z c.refuse.result 7 _ _ c.refuse.ensures (omega arith) (ap (perform (here_of x limit (bufs c.args.text.now c.args.map.now bs rs fr cd) ms c.args.z)) (refused_at limit ms c.args.z f c.args.d c.if-d-eq-FILE_WORD.false c.if-d-eq-LINE_WORD.false a)) h
