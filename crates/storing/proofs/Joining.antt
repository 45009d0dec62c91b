-- A string's bytes without each `\`newline, one at a time; the pieces of a text's tokens, one at a time, and their length.
-- Assumes nothing.
use Prim.Native.Nat.{ℕ, suc, ◌+◌, ◌-◌, ◌<◌, ◌≤◌}
use mathlib.Core.Bool.{Bool, true, false, cond, not, ◌&&◌, ◌||◌}
use mathlib.Core.List.{List, [], ◌∷◌, ◌++◌}
use mathlib.Core.Path.{◌≡◌, refl, ap, ◌∙◌}
use native.Mathlib.Nat.{le_refl}
use native.Mathlib.Omega.{arith}
use lib.Dec.{eqb, ltb}
use lib.ListN.{length, get_or, length-append, length-take}
use borrow.Author.Tests.{lt-ltb, le-ltb}
use Rattle.text.specs.Bytes.{part}
use Rattle.text.proofs.Matching.{part_more}
use Rattle.lex.specs.Tokens.{in_definition, between, Newline, LineComment, BlockComment, String, Continuation, is, marks_after, token_at, tokens}
use Rattle.lex.specs.declared.Mode.{Mode}
use Rattle.lex.specs.declared.Token.{Token}
use Rattle.lex.proofs.Tests.{by_test}
use Rattle.lex.proofs.Progress.{token_ends, token_within, token-at}
use Rattle.lex.proofs.Listing.{tokens_out, by_tokens}
use Rattle.storing.proofs.Reading.{newline_stops, define_next}
use Rattle.storing.specs.Stored.{given, joined_from, piece, pieces}

-- the next byte of a string
pub joined_more : (s : List ℕ) (i e : ℕ) (esc : Bool) → i < e → i < length s
    → joined_from esc (part s i e) ≡ given esc (get_or s i 0) ++ joined_from (not esc && eqb (get_or s i 0) 92) (part s (i + 1) e)
unfolding joined_from
joined_more s i e esc h l = rw (part_more s i e h l)

-- a `\` that is not given out yet counts for one byte more
abbrev pub due : Bool → ℕ → ℕ
due esc n = cond esc (suc n) n

pub joined_length : (esc : Bool) (xs : List ℕ) → length (joined_from esc xs) ≤ due esc (length xs)
unfolding joined_from
joined_length true [] = le_refl 1
joined_length false [] = le_refl 0
joined_length true (x ∷ xs) =
    by_test (λ (w : List ℕ). length (w ++ joined_from false xs) ≤ suc (suc (length xs))) (eqb x 10)
    (λ e. omega (arith, joined_length false xs)) (λ e. omega (arith, joined_length false xs))
joined_length false (x ∷ xs) = go (eqb x 92) (λ b. joined_length b xs)
  where
    go : (b : Bool) → ((b : Bool) → length (joined_from b xs) ≤ due b (length xs))
        → length (cond b [] (x ∷ []) ++ joined_from b xs) ≤ suc (length xs)
    go true ih = ih true
    go false ih = omega (arith, ih false)

part_length : (s : List ℕ) (i e : ℕ) → length (part s i e) ≤ e - i
part_length s i e = rw length-take (omega arith)

-- as long as the token at most
abbrev NoLonger : Token → List ℕ → Type 0
NoLonger t w = length w ≤ t.end - t.at

piece_length : (s : List ℕ) (b : Bool) (t : Token) → t.at < t.end → NoLonger t (piece s b t)
unfolding piece
piece_length s b t h =
    by_test (NoLonger t) (is LineComment t || is BlockComment t) (λ e. omega arith)
    (λ e. by_test (NoLonger t) (is Continuation t) (λ e. by_test (NoLonger t) b (λ e. omega arith) (λ e. omega arith))
    (λ e. by_test (NoLonger t) (is String t)
    (λ e. omega (arith, joined_length false (part s t.at t.end), part_length s t.at t.end))
    (λ e. part_length s t.at t.end)))

-- the tokens before x of a definition, one at a time
module _ (s : List ℕ) (x i : ℕ) (b : Bool) where
  -- none past the text's end
  pub pieces_out : length s ≤ i → pieces s x b (tokens (between in_definition b) s i) ≡ []
  unfolding pieces
  pieces_out h = rw (tokens_out (between in_definition b) s i h)

  -- none from x on
  pub pieces_past : x ≤ i → pieces s x b (tokens (between in_definition b) s i) ≡ []
  unfolding pieces
  pieces_past h =
      by_tokens s (λ (m : Mode) (i : ℕ) (ts : List Token). (b : Bool) → x ≤ i → pieces s x b ts ≡ []) (λ m i l b h. refl) (λ m i l e b h. refl)
      (λ m i l e f b h. rw (token-at m s i, le-ltb i x h)) (between in_definition b) i b h

  module _ (m : Mode) (t : Token) (p : m ≡ between in_definition b) (q : t ≡ token_at m s i) (l : i < length s) where
    -- none from the newline on that ends it
    pub pieces_stop : t.kind ≡ Newline → pieces s x b (tokens (between in_definition b) s i) ≡ []
    unfolding pieces
    pieces_stop e = rw (newline_stops b m s i t p q l e)

    pub pieces_next : (t.kind ≡ Newline → ⊥) → i < x → (b' : Bool) → b' ≡ marks_after b t
        → pieces s x b (tokens (between in_definition b) s i) ≡ piece s b t ++ pieces s x b' (tokens (between in_definition b') s t.end)
    unfolding pieces
    pieces_next n h b' e =
        let a : t.at ≡ i = ap (λ (t : Token). t.at) q ∙ token-at m s i in
        rw (e, define_next b m s i t p q l n, a, lt-ltb i x h)

-- all pieces are together no longer than the text
pub pieces_length : (s : List ℕ) (x : ℕ) (m : Mode) (i : ℕ) (b : Bool) → length (pieces s x b (tokens m s i)) ≤ length s
unfolding pieces
pieces_length s x m i b = omega (arith, short_of m i b)
  where
    short_of : (m : Mode) (i : ℕ) (b : Bool) → length (pieces s x b (tokens m s i)) ≤ length s - i
    short_of =
        by_tokens s (λ (m : Mode) (i : ℕ) (ts : List Token). (b : Bool) → length (pieces s x b ts) ≤ length s - i) (λ m i l b. omega arith) (λ m i l e b. omega arith)
        (λ m i l e f b.
        let t = token_at m s i in
        let a : t.at ≡ i = token-at m s i in
        let g : i < t.end = token_ends m s i l in
        let k : t.end ≤ length s = token_within m s i l in
        let d : length (piece s b t) ≤ t.end - t.at = piece_length s b t (omega arith) in
        by_test (λ (w : List ℕ). length w ≤ length s - i) (ltb t.at x)
        (λ q. rw length-append (omega (arith, f (marks_after b t)))) (λ q. omega arith))
