-- Opens every definition that a usage is expanded by, for worked examples: `unfolding expanding`.
-- Assumes nothing.
use Prim.Native.Nat.{ℕ}
use Rattle.text.specs.Bytes.{same}
use Rattle.text.specs.Order.{order_of}
use Rattle.lex.proofs.Computing.{computing}
use Rattle.names.specs.Names.{number_in, macro_directives, state_directives, other_directives, other_of, state_of, directive_of}
use Rattle.storing.specs.Stored.{joined_from}
use Rattle.store.specs.Stores.{find_from}
use Rattle.sets.specs.Sets.{elem, insert_asc}
use Rattle.writing.specs.Written.{placed, text_of, map_of, fresh_after, put_in}
use Rattle.pending.specs.Pending.{file_tokens, file_from, text_tokens, kind_view, view}
use Rattle.arguments.specs.Arguments.{collect, seek}
use Rattle.replace.specs.Tidying.{cleaned_all, drop_left, drop_right, tidy_all}
use Rattle.replace.specs.Replacing.{enough, value, in_place, replace, deepest}
use Rattle.expand.specs.Expanding.{writes, walk, onward, first, expand}

unfoldable pub expanding : ℕ
unfolding computing same order_of number_in macro_directives state_directives other_directives other_of state_of directive_of joined_from find_from elem insert_asc placed text_of map_of fresh_after put_in file_tokens file_from text_tokens kind_view view collect seek cleaned_all drop_left drop_right tidy_all enough value in_place replace deepest writes walk onward first expand
expanding = 0
