-- What is stored of a definition's tokens that nothing bars: text such as a definition can store.
-- Assumes nothing.
use Prim.Native.Nat.{ℕ, zero, suc, ◌+◌, ◌<◌, ◌≤◌}
use mathlib.Core.Bool.{Bool, true, false}
use mathlib.Core.List.{List, ◌∷◌}
use mathlib.Core.Path.{◌≡◌, refl}
use native.Mathlib.Omega.{arith}
use lib.Dec.{leb}
use lib.ListN.{length, get_or}
use borrow.Author.Tests.{eqb-true, eq-eqb, leb-true, leb-false}
use Rattle.lex.specs.Tokens.{in_definition, between, Newline, is, marks_after, token_at, tokens}
use Rattle.lex.specs.Faults.{Unbarred, some}
use Rattle.lex.specs.declared.Token.{Token}
use Rattle.lex.proofs.Tests.{true_false}
use Rattle.lex.proofs.Progress.{token_ends}
use Rattle.storing.specs.Stored.{stored}
use Rattle.storing.proofs.Reading.{define_next}
use Rattle.judging.proofs.Shapes.{Made, made_left, made_right}
use Rattle.judging.proofs.Forming.{Formed, rest, formed_out, formed_past, formed_stop, formed_next}

first_unbarred : {t : Token} {ts : List Token} → Unbarred (t ∷ ts) → t.bar ≡ 0
first_unbarred (some z u) = z

rest_unbarred : {t : Token} {ts : List Token} → Unbarred (t ∷ ts) → Unbarred ts
rest_unbarred (some z u) = u

-- what is stored of them
module _ (s : List ℕ) (x : ℕ) where
  abbrev Whole : Bool → ℕ → Type 0
  Whole b i = Unbarred (tokens (between in_definition b) s i) → Formed b (get_or s i 0) (rest s x b i)

  formed : (n : ℕ) (b : Bool) (i : ℕ) → length s ≤ n + i → Whole b i
  formed zero b i h u = formed_out s x b i (omega arith)
  formed (suc n) b i h u = go (leb (length s) i) (leb x i) (is Newline (token_at (between in_definition b) s i)) refl refl refl (λ c j k. formed n c j k)
    where
      t : Token
      t = token_at (between in_definition b) s i

      go : (a c d : Bool) → leb (length s) i ≡ a → leb x i ≡ c → is Newline t ≡ d
          → ((c : Bool) (j : ℕ) → length s ≤ n + j → Whole c j) → Formed b (get_or s i 0) (rest s x b i)
      go true c d p q r f = formed_out s x b i (leb-true (length s) i p)
      go false true d p q r f = formed_past s x b i (leb-true x i q)
      go false false true p q r f = formed_stop s x b i (leb-false (length s) i p) t refl (eqb-true t.kind Newline r)
      go false false false p q r f =
          let l : i < length s = leb-false (length s) i p in
          let g : i < t.end = token_ends (between in_definition b) s i l in
          let k : t.kind ≡ Newline → ⊥ = λ e. true_false (is Newline t) (eq-eqb t.kind Newline e) r in
          let v : Unbarred (t ∷ tokens (between in_definition (marks_after b t)) s t.end) = rw (define_next b (between in_definition b) s i t refl refl l k) at u in
          formed_next s x b i l t refl k (leb-false x i q) (first_unbarred v) (f (marks_after b t) t.end (omega arith) (rest_unbarred v))

pub stored_made : (s : List ℕ) (i x : ℕ) → Unbarred (tokens in_definition s i) → Made false (stored s i x)
unfolding stored
stored_made s i x u = made_right (made_left (formed s x (length s) false i (omega arith) u).made)
