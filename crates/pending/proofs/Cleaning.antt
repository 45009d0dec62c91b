-- An argument's token: a comment is one space, a string is joined, and joining again changes nothing.
-- Assumes nothing.
use Prim.Native.Nat.{ℕ, ◌<◌}
use mathlib.Core.Bool.{Bool, true, false, cond}
use mathlib.Core.List.{List, [], ◌∷◌, ◌++◌}
use mathlib.Core.Path.{◌≡◌, refl, sym, ap, ◌∙◌}
use native.Mathlib.Omega.{arith}
use lib.Dec.{eqb, leb}
use borrow.Author.Tests.{eqb-true, eqb-false, leb-false}
use Rattle.lex.specs.Tokens.{White, String}
use Rattle.storing.specs.Stored.{joined_from}
use Rattle.sets.specs.Sets.{members}
use Rattle.pending.specs.declared.Pend.{Pend}
use Rattle.pending.specs.Pending.{is_comment}
use Rattle.pending.specs.References.{part_in, raw_of, pending_by, joined_source, cleaned_ref}

-- ---- joining

-- also of what follows a `\` not yet given out
joined_so : (esc : Bool) (w : List ℕ) → joined_from false (joined_from esc w) ≡ joined_from esc w
unfolding joined_from
joined_so true [] = refl
joined_so false [] = refl
joined_so true (x ∷ xs) = go (eqb x 10) refl (joined_so false xs)
  where
    go : (t : Bool) → eqb x 10 ≡ t → joined_from false (joined_from false xs) ≡ joined_from false xs
        → joined_from false (cond t [] (92 ∷ x ∷ []) ++ joined_from false xs) ≡ cond t [] (92 ∷ x ∷ []) ++ joined_from false xs
    go true q ih = ih
    go false q ih = rw q (ap (λ (w : List ℕ). 92 ∷ x ∷ w) ih)
joined_so false (x ∷ xs) = go (eqb x 92) refl (λ b. joined_so b xs)
  where
    go : (t : Bool) → eqb x 92 ≡ t → ((b : Bool) → joined_from false (joined_from b xs) ≡ joined_from b xs)
        → joined_from false (cond t [] (x ∷ []) ++ joined_from t xs) ≡ cond t [] (x ∷ []) ++ joined_from t xs
    go true q ih = ih true
    go false q ih = rw q (ap (λ (w : List ℕ). x ∷ w) (ih false))

pub joined_again : (w : List ℕ) → joined_from false (joined_from false w) ≡ joined_from false w
joined_again w = joined_so false w

-- ---- where the bytes stand

joined_same : (k : ℕ) → eqb k 0 ≡ false → eqb k 1 ≡ false → joined_source k ≡ k
joined_same k p q = rw (p, q)

-- the part that a joined source names is that of the source
pub part_joined : (s b : List ℕ) (k i e : ℕ) → part_in s b (joined_source k) i e ≡ part_in s b k i e
unfolding part_in
part_joined s b k i e = go (eqb k 0) (eqb k 1) refl refl
  where
    go : (x y : Bool) → eqb k 0 ≡ x → eqb k 1 ≡ y → part_in s b (joined_source k) i e ≡ part_in s b k i e
    go true y p q = rw (eqb-true k 0 p)
    go false true p q = rw (eqb-true k 1 q)
    go false false p q = ap (λ (x : ℕ). part_in s b x i e) (joined_same k p q)

abbrev bytes_in : List ℕ → List ℕ → ℕ → ℕ → ℕ → List ℕ
bytes_in s b k i e = cond (eqb k 2) (32 ∷ []) (part_in s b k i e)

-- the bytes of a string's reference
abbrev string_in : List ℕ → List ℕ → ℕ → ℕ → ℕ → List ℕ
string_in s b k i e = cond (leb 3 k) (joined_from false (bytes_in s b k i e)) (bytes_in s b k i e)

string_again : (s b : List ℕ) (k i e : ℕ) → leb 3 k ≡ true → string_in s b k i e ≡ joined_from false (string_in s b k i e)
string_again s b k i e q = rw q (sym (joined_again (bytes_in s b k i e)))

string_joined : (s b : List ℕ) (k i e : ℕ) → string_in s b (joined_source k) i e ≡ joined_from false (string_in s b k i e)
unfolding part_in joined_from
string_joined s b k i e = go (eqb k 0) (eqb k 1) (eqb k 2) (leb 3 k) refl refl refl refl
  where
    go : (x y z u : Bool) → eqb k 0 ≡ x → eqb k 1 ≡ y → eqb k 2 ≡ z → leb 3 k ≡ u
        → string_in s b (joined_source k) i e ≡ joined_from false (string_in s b k i e)
    go true y z u p q r t = rw (eqb-true k 0 p)
    go false true z u p q r t = rw (eqb-true k 1 q)
    go false false true u p q r t = rw (eqb-true k 2 r)
    go false false false true p q r t = ap (λ (x : ℕ). string_in s b x i e) (joined_same k p q) ∙ string_again s b k i e t
    go false false false false p q r t =
        let l : k < 3 = leb-false 3 k t in
        absurd (omega (arith, eqb-false k 0 p, eqb-false k 1 q, eqb-false k 2 r))

-- ---- the token

pub clean_is : (s b : List ℕ) (p : Pend)
    → pending_by s b (cleaned_ref p)
    ≡ cond (is_comment p.kind) (record { kind = White; bytes = 32 ∷ []; name = []; own = members p.set; at = 0; bar = 0 })
    (cond (eqb p.kind String) (record { kind = String; bytes = joined_from false (pending_by s b p).bytes; name = (pending_by s b p).name; own = members p.set; at = 0; bar = 0 })
    (pending_by s b p))
unfolding pending_by raw_of part_in
clean_is s b p = go (is_comment p.kind) (eqb p.kind String) refl refl
  where
    go : (x y : Bool) → is_comment p.kind ≡ x → eqb p.kind String ≡ y
        → pending_by s b (cond x (record { kind = White; source = 2; start = 0; from = 0; end = 0; set = p.set })
        (cond y (record { kind = p.kind; source = joined_source p.source; start = p.start; from = p.from; end = p.end; set = p.set })
        p))
        ≡ cond x (record { kind = White; bytes = 32 ∷ []; name = []; own = members p.set; at = 0; bar = 0 })
        (cond y (record { kind = String; bytes = joined_from false (pending_by s b p).bytes; name = (pending_by s b p).name; own = members p.set; at = 0; bar = 0 })
        (pending_by s b p))
    go true y q r = refl
    go false true q r = rw (part_joined s b p.source p.from p.end, eqb-true p.kind String r, string_joined s b p.source p.start p.end)
    go false false q r = refl
