-- Opens every definition of the token reader, for worked examples: `unfolding computing`.
-- Assumes nothing.
use Prim.Native.Nat.{ℕ}
use Rattle.text.specs.Bytes.{bytes}
use Rattle.lex.specs.Scans.{run_from, run_end, span_from, span_end, string_from, string_end, block_from, block_end}
use Rattle.lex.specs.Tokens.{string_token, slash_token, backslash_token, digits_token, based_token, escaped_grave, grave_token, sign_token, token_at, tokens_from, tokens}

unfoldable pub computing : ℕ
unfolding bytes run_from run_end span_from span_end string_from string_end block_from block_end string_token slash_token backslash_token digits_token based_token escaped_grave grave_token sign_token token_at tokens_from tokens
computing = 0
