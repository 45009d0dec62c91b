-- What holds of the tokens of every text, and examples.
-- Assumes nothing.
use Prim.Native.Nat.{ℕ, ◌+◌, ◌-◌, ◌<◌, ◌≤◌}
use mathlib.Core.Bool.{false}
use mathlib.Core.List.{List, [], ◌∷◌, ◌++◌}
use mathlib.Core.Path.{◌≡◌, refl, sym, ap, ◌∙◌}
use native.Mathlib.Omega.{arith}
use lib.ListN.{replicate, drop, drop_of_length-le, take-append-drop}
use lib.Seq.{drop-drop}
use Rattle.text.specs.Bytes.{bytes, part}
use Rattle.lex.specs.declared.Mode.{Mode}
use Rattle.lex.specs.declared.Token.{Token}
use Rattle.lex.specs.Tokens.{in_file, in_text, in_definition, Newline, LineComment, BlockComment, String, Name, EscapedQuote, Joiner, Byte, Continuation, is, plain, token_at, tokens}
use Rattle.lex.specs.Covering.{written, Chain, none, next}
use Rattle.lex.proofs.Tests.{and_left, true_false}
use Rattle.lex.proofs.Progress.{token-at, token_ends}
use Rattle.lex.proofs.Listing.{mode_define, by_tokens}
use Rattle.lex.proofs.Computing.{computing}

-- no token is empty, and each starts where the one before ends
pub chained : (m : Mode) (s : List ℕ) (i : ℕ) → Chain i (tokens m s i)
chained m s i =
    by_tokens s (λ (m : Mode) (i : ℕ) (ts : List Token). Chain i ts) (λ m i l. none) (λ m i l q. none)
    (λ m i l q r. next (token-at m s i) (token_ends m s i l) r) m i

-- a part, and the text past it
part_drop : (s : List ℕ) (i e : ℕ) → i ≤ e → part s i e ++ drop e s ≡ drop i s
part_drop s i e h =
    let q : i + (e - i) ≡ e = omega arith in
    ap (λ (r : List ℕ). part s i e ++ r) (ap (λ (n : ℕ). drop n s) (sym q) ∙ sym (drop-drop (e - i) i s)) ∙ take-append-drop (e - i) (drop i s)

-- outside definitions the tokens from i on are the whole text from i on
pub text_covered : (m : Mode) (s : List ℕ) (i : ℕ) → m.define ≡ false → written s (tokens m s i) ≡ drop i s
unfolding written
text_covered m s i =
    by_tokens s (λ (m : Mode) (i : ℕ) (ts : List Token). m.define ≡ false → written s ts ≡ drop i s)
    (λ m i l d. rw (drop_of_length-le s l)) (λ m i l q d. true_false m.define (and_left m.define (is Newline (token_at m s i)) q) d)
    (λ m i l q r d. let t = token_at m s i in let e : i < t.end = token_ends m s i l in
    rw (token-at m s i, r (mode_define m t ∙ d)) (part_drop s i t.end (omega arith))) m i

-- a file is its tokens
pub file_covered : (s : List ℕ) → written s (tokens in_file s 0) ≡ s
file_covered s = text_covered in_file s 0 refl

-- Examples; a token is its kind, start, end and refusal.

-- a name of 1,024 bytes
pub long_name : token_at in_file (replicate 1024 97) 0 ≡ plain Name 0 1024 0
unfolding computing
long_name = refl

-- a name of 1,025 bytes
pub too_long_name : token_at in_file (replicate 1025 97) 0 ≡ plain Name 0 1025 6
unfolding computing
too_long_name = refl

-- three `"` are refused as such, not read as an empty string and the start of another
pub three_quotes : tokens in_file (bytes "=\"\"\"") 0 ≡ plain Byte 0 1 0 ∷ plain String 1 4 5 ∷ []
unfolding computing
three_quotes = refl

-- a joiner in a file
pub file_joiner : tokens in_file (bytes "a``b") 0 ≡ plain Name 0 1 0 ∷ plain Joiner 1 3 4 ∷ plain Name 3 4 0 ∷ []
unfolding computing
file_joiner = refl

-- a joiner in a macro's text
pub text_joiner : tokens in_text (bytes "a``b") 0 ≡ plain Name 0 1 0 ∷ plain Joiner 1 3 0 ∷ plain Name 3 4 0 ∷ []
unfolding computing
text_joiner = refl

-- an escaped quote mark, which could be a grave accent with an escaped name
pub escaped_mark : tokens in_text (bytes "`\\`\"a") 0 ≡ plain EscapedQuote 0 4 0 ∷ plain Name 4 5 0 ∷ []
unfolding computing
escaped_mark = refl

-- in a definition a line comment ends before `\` and a newline, and the definition before the next newline
pub continued : tokens in_definition (bytes "a//b\\\nc\nd") 0 ≡ plain Name 0 1 0 ∷ plain LineComment 1 4 0 ∷ plain Continuation 4 6 0 ∷ plain Name 6 7 0 ∷ []
unfolding computing
continued = refl

-- an illegal byte in a comment bars the comment, at its start
pub illegal_byte : tokens in_file (bytes "a/*b\u{1}*/") 0 ≡ plain Name 0 1 0 ∷ plain BlockComment 1 7 2 ∷ []
unfolding computing
illegal_byte = refl
