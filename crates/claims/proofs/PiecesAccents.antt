-- No usage, include or conditional is left: a piece that begins with a grave accent is a directive that is copied.
-- Assumes nothing.
use Prim.Native.Nat.{ℕ, zero, suc, ◌+◌, ◌/◌, ◌%◌}
use mathlib.Core.Bool.{Bool, true, false}
use mathlib.Core.List.{List, [], ◌∷◌, ◌++◌}
use mathlib.Core.Path.{◌≡◌, refl, sym, ap, ◌∙◌}
use native.Mathlib.Omega.{arith}
use lib.Dec.{eqb, ltb}
use lib.ListN.{get_or}
use borrow.Author.Tests.{eqb-true, eqb-false, ltb-true, ltb-false, ne_eqb}
use Rattle.text.specs.Bytes.{part}
use Rattle.lex.specs.Tokens.{in_file, Escaped, Quote, EscapedQuote, Joiner, Grave, is}
use Rattle.lex.proofs.Tests.{by_test, true_false}
use Rattle.lex.proofs.Progress.{token-at}
use Rattle.names.specs.Names.{FileWord, directive_of}
use Rattle.places.specs.Places.{decimal, line_at}
use Rattle.pending.specs.Pending.{Pending, kind_view, is_call, view}
use Rattle.expand.specs.Expanding.{Outer, word_writes, writes}
use Rattle.turns.specs.States.{Context}
use Rattle.turns.specs.Files.{file_of, token_in, Read}
use Rattle.claims.specs.Pieces.{outer_at, Source, Kept, Word, file_word, line_word, Piece, copied, kept, newline, word, expanded, Worded, as_file, as_line}
use Rattle.claims.proofs.PiecesTokens.{is_accent, token_begins}
use Rattle.claims.proofs.PiecesTexts.{Tame, source_tame}

-- bytes that do not begin with a grave accent
abbrev Bare : List ℕ → Type 0
Bare l = eqb (get_or l 0 0) 96 ≡ false

bare_append : (l k : List ℕ) → Bare l → Bare k → Bare (l ++ k)
bare_append [] k h g = g
bare_append (b ∷ l) k h g = h

decimal_bare : (k n : ℕ) → Bare (decimal k n)
unfolding decimal
decimal_bare zero n = refl
decimal_bare (suc k) n =
    by_test Bare (ltb n 10) (λ e. ne_eqb (48 + n) 96 (λ q. omega (arith, ltb-true n 10 e)))
    (λ e. bare_append (decimal k (n / 10)) ((48 + n % 10) ∷ []) (decimal_bare k (n / 10))
    (ne_eqb (48 + n % 10) 96 (λ q. omega arith)))

-- ---- an expansion

-- a grave accent name writes one of the outermost usage's words
pub grave_writes : (o : Outer) (q : Pending) → eqb q.kind Grave ≡ true → writes o q ≡ word_writes o q.name
unfolding writes
grave_writes o q e = rw (eqb-true q.kind Grave e)

-- one that is no usage is one of the two `__` words
call_named : (q : Pending) → Tame q → eqb q.kind Grave ≡ true → is_call (view q) ≡ false → ltb 0 (directive_of q.name) ≡ true
unfolding view kind_view
call_named q h g c = go (ltb 0 (directive_of q.name)) refl
  where
    go : (b : Bool) → ltb 0 (directive_of q.name) ≡ b → b ≡ true
    go true e = refl
    go false e = true_false (is_call (view q)) (rw (h.free, eqb-true q.kind Grave g, h.word g, e)) c

pub accents_written : (x : Context) (i : ℕ) (q : Pending) → Source x i q → eqb q.kind Grave ≡ true → is_call (view q) ≡ false → (o : Outer)
    → Worded o q
accents_written x i q s g c o = go (eqb (directive_of q.name) FileWord) refl
  where
    go : (b : Bool) → eqb (directive_of q.name) FileWord ≡ b → Worded o q
    go true e = as_file (eqb-true (directive_of q.name) FileWord e) (grave_writes o q g ∙ rw e)
    go false e =
        let h : Tame q = source_tame x i q s in
        let n = eqb-false (directive_of q.name) FileWord e in
        as_line
        (omega (arith, n, ltb-true 0 (directive_of q.name) (call_named q h g c), ltb-false 2 (directive_of q.name) (h.word g)))
        (grave_writes o q g ∙ rw e)

writes_bare : (x : Context) (i p : ℕ) (q : Pending) → Tame q → Bare (writes (outer_at x i p) q)
unfolding writes
writes_bare x i p q h =
    by_test Bare (eqb q.kind Quote) (λ e. refl)
    (λ a. by_test Bare (eqb q.kind EscapedQuote) (λ e. refl)
    (λ b. by_test Bare (eqb q.kind Joiner) (λ e. refl)
    (λ c. by_test Bare (eqb q.kind Grave)
    (λ g. by_test Bare (eqb (directive_of q.name) FileWord) (λ e. refl) (λ e. decimal_bare 6 (line_at (file_of x i) p)))
    (λ g. let n : is_accent q.kind ≡ false = rw (g, a, b, c) in
    let f : Bare q.bytes = sym h.accent ∙ n in
    by_test Bare (eqb q.kind Escaped) (λ e. bare_append q.bytes (32 ∷ []) f refl) (λ e. f)))))

-- ---- the pieces

copied_bare : (x : Context) (i p : ℕ) → Read x i p → is Grave (token_in x i p) ≡ false → Bare (part (file_of x i) p (token_in x i p).end)
copied_bare x i p r e =
    let z = token_begins in_file (file_of x i) p r.inside r.free in
    ap (λ (j : ℕ). eqb (get_or (part (file_of x i) j (token_in x i p).end) 0 0) 96) (sym (token-at in_file (file_of x i) p)) ∙ (sym (z.in-file refl) ∙ e)

word_bare : (x : Context) (b : List ℕ) → Word x b → Bare b
word_bare x b (file_word i p a) = refl
word_bare x b (line_word i p a) = decimal_bare 6 (line_at (file_of x i) p)

-- a piece that begins with a grave accent is a directive that is copied
pub accents_kept : (x : Context) (b : List ℕ) → Piece x b → eqb (get_or b 0 0) 96 ≡ true → Kept x b
accents_kept x b (copied i p r e) h = true_false (eqb (get_or b 0 0) 96) h (copied_bare x i p r e)
accents_kept x b (kept k) h = k
accents_kept x b (newline i p r c l) h = true_false (eqb (get_or b 0 0) 96) h refl
accents_kept x b (word w) h = true_false (eqb (get_or b 0 0) 96) h (word_bare x b w)
accents_kept x b (expanded i p q a s c) h = true_false (eqb (get_or b 0 0) 96) h (writes_bare x i p q (source_tame x i q s))
