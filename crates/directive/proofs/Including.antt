-- An include's line, by the byte or token at i.
-- Assumes nothing.
use Prim.Native.Nat.{ℕ, suc, ◌+◌, ◌<◌, ◌≤◌}
use mathlib.Core.Bool.{Bool, true, false, cond, not, ◌&&◌, ◌||◌}
use mathlib.Core.List.{List, [], ◌∷◌}
use mathlib.Core.Path.{◌≡◌, subst}
use native.Mathlib.Numerals.{add-one}
use native.Mathlib.Omega.{arith}
use lib.Dec.{eqb}
use lib.ListN.{length, get_or, drop, drop_of_length-le, length-drop}
use lib.Seq.{drop-cons}
use borrow.Author.Tests.{eq-eqb, ne_eqb}
use Rattle.lex.specs.declared.Fault.{Fault}
use Rattle.lex.specs.declared.Mode.{Mode}
use Rattle.lex.specs.declared.Token.{Token}
use Rattle.lex.specs.Classes.{is_legal}
use Rattle.lex.specs.Tokens.{in_file, Newline, is_gap, token_at, tokens}
use Rattle.lex.specs.Faults.{fault_of, worse_of}
use Rattle.lex.proofs.Tests.{by_test}
use Rattle.lex.proofs.Listing.{tokens_out}
use Rattle.std.proofs.Common.{Option, Some, None}
use Rattle.directive.specs.declared.FileName.{FileName}
use Rattle.directive.specs.declared.FileName.TheVariants.{Unnamed}
use Rattle.directive.specs.Words.{wraps}
use Rattle.directive.specs.Include.{raw_from, raw_end, line, behind, name_at, include_in}
use Rattle.directive.proofs.Wording.{token_first}

-- a raw name from i on
module _ (s : List ℕ) (i : ℕ) (ok : Bool) where
  pub raw_out : length s ≤ i → raw_from ok i (drop i s) ≡ None
  unfolding raw_from
  raw_out h = rw (drop_of_length-le s h)

  module _ (h : i < length s) where
    pub raw_closed : get_or s i 0 ≡ 62 → raw_from ok i (drop i s) ≡ Some (i, cond ok 0 2)
    unfolding raw_from
    raw_closed e = rw (drop-cons s i 0 h, eq-eqb (get_or s i 0) 62 e)

    module _ (n : get_or s i 0 ≡ 62 → ⊥) where
      pub raw_newline : get_or s i 0 ≡ 10 → raw_from ok i (drop i s) ≡ None
      unfolding raw_from
      raw_newline e = rw (drop-cons s i 0 h, ne_eqb (get_or s i 0) 62 n, eq-eqb (get_or s i 0) 10 e)

      pub raw_on : (get_or s i 0 ≡ 10 → ⊥) → raw_from ok i (drop i s) ≡ raw_from (ok && is_legal (get_or s i 0)) (i + 1) (drop (i + 1) s)
      unfolding raw_from
      raw_on e = rw (add-one i, drop-cons s i 0 h, ne_eqb (get_or s i 0) 62 n, ne_eqb (get_or s i 0) 10 e)

-- its `>` lies in the text
ClosedBelow : ℕ → Option (ℕ × ℕ) → Type 0
ClosedBelow n (Some (e, b)) = e < n
ClosedBelow n None = Unit {0}

closed_below : (ok : Bool) (i n : ℕ) (xs : List ℕ) → i + length xs ≤ n → ClosedBelow n (raw_from ok i xs)
unfolding ClosedBelow raw_from
closed_below ok i n [] h = tt
closed_below ok i n (x ∷ xs) h =
    by_test (ClosedBelow n) (eqb x 62) (λ e. omega arith)
    (λ e. by_test (ClosedBelow n) (eqb x 10) (λ e. tt) (λ e. closed_below (ok && is_legal x) (suc i) n xs (omega arith)))

pub raw_inside : (s : List ℕ) (i e n : ℕ) → raw_end s i ≡ Some (e, n) → i < length s + 1 → e < length s
unfolding ClosedBelow raw_end
raw_inside s i e n q h =
    subst (ClosedBelow (length s)) q (closed_below true i (length s) (drop i s) (omega (arith, length-drop i s)))

-- the rest of the line behind a name
module _ (s : List ℕ) (n : FileName) (end : ℕ) (f : Fault) (other : Bool) (i : ℕ) where
  pub behind_out : length s ≤ i → behind s n end f other (tokens in_file s i) ≡ line f n end other
  unfolding behind
  behind_out h = rw (tokens_out in_file s i h)

  module _ (m : Mode) (t : Token) (h : i < length s) (d : m ≡ in_file) (e : t ≡ token_at m s i) where
    pub behind_newline : t.kind ≡ Newline → behind s n end f other (tokens in_file s i) ≡ line f n end other
    unfolding behind
    behind_newline k = rw (token_first s i m t h d e, eq-eqb t.kind Newline k)

    -- the token's fault, with the one before; whether it is spacing; whether it holds a newline
    module _ (k : t.kind ≡ Newline → ⊥) (a g : Fault) (p : a ≡ fault_of t) (q : g ≡ worse_of f a) (gap : Bool) (o : gap ≡ is_gap t) (wrap : Bool) (w : wrap ≡ wraps s t) where
      pub behind_wrapped : wrap ≡ true → behind s n end f other (tokens in_file s i) ≡ line g n end (other || not gap)
      unfolding behind
      behind_wrapped c = rw (token_first s i m t h d e, ne_eqb t.kind Newline k, ← w, c, q, p, o)

      pub behind_on : wrap ≡ false
          → behind s n end f other (tokens in_file s i) ≡ behind s n end g (other || not gap) (tokens in_file s t.end)
      unfolding behind
      behind_on c = rw (token_first s i m t h d e, ne_eqb t.kind Newline k, ← w, c, q, p, o)

-- the line of the include whose word ends at `from`
module _ (s : List ℕ) (from : ℕ) (f : Fault) (i : ℕ) where
  pub include_out : length s ≤ i → include_in s from f (tokens in_file s i) ≡ line f Unnamed from false
  unfolding include_in
  include_out h = rw (tokens_out in_file s i h)

  module _ (m : Mode) (t : Token) (h : i < length s) (d : m ≡ in_file) (e : t ≡ token_at m s i) where
    pub include_newline : t.kind ≡ Newline → include_in s from f (tokens in_file s i) ≡ line f Unnamed from false
    unfolding include_in
    include_newline k = rw (token_first s i m t h d e, eq-eqb t.kind Newline k)

    module _ (k : t.kind ≡ Newline → ⊥) (a g : Fault) (p : a ≡ fault_of t) (q : g ≡ worse_of f a) (wrap : Bool) (w : wrap ≡ wraps s t) where
      pub include_wrapped : wrap ≡ true → include_in s from f (tokens in_file s i) ≡ line g Unnamed from false
      unfolding include_in
      include_wrapped c = rw (token_first s i m t h d e, ne_eqb t.kind Newline k, ← w, c, q, p)

      module _ (c : wrap ≡ false) (gap : Bool) (o : gap ≡ is_gap t) where
        pub include_named : not gap ≡ true → include_in s from f (tokens in_file s i) ≡ name_at s t f
        unfolding include_in
        include_named x = rw (token_first s i m t h d e, ne_eqb t.kind Newline k, ← w, c, ← o, x)

        pub include_on : not gap ≡ false → include_in s from f (tokens in_file s i) ≡ include_in s from g (tokens in_file s t.end)
        unfolding include_in
        include_on x = rw (token_first s i m t h d e, ne_eqb t.kind Newline k, ← w, c, ← o, x, q, p)
