-- How a token is spelled into a work buffer and written: what is added behind the buffer's first byte, how long a token's bytes
-- are, and which tokens are usages.
-- Assumes nothing.
use Prim.Native.Nat.{ℕ, ◌+◌, ◌-◌, ◌<◌, ◌≤◌}
use mathlib.Core.Bool.{Bool, true, false, cond, ◌&&◌, ◌||◌}
use mathlib.Core.List.{List, [], ◌∷◌, ◌++◌}
use mathlib.Core.Path.{◌≡◌, refl, sym, ap, subst, ◌∙◌}
use native.Mathlib.Omega.{arith}
use lib.Dec.{eqb, ltb}
use lib.ListN.{length, length-take, length-drop}
use lib.Seq.{take_all}
use borrow.Author.Tests.{lt-ltb, ne_eqb, eqb-true, eqb-false}
use Rattle.text.specs.Bytes.{part}
use Rattle.lex.specs.Tokens.{String, Name, Escaped, Quote, EscapedQuote, Joiner, Grave, Byte}
use Rattle.lex.proofs.Tests.{by_test, true_false}
use Rattle.names.specs.Names.{FileWord, directive_of}
use Rattle.storing.specs.Stored.{joined_from}
use Rattle.storing.specs.Writing.{AddedBy}
use Rattle.std.proofs.Common.{Option, None}
use Rattle.storing.proofs.Joining.{joined_length}
use Rattle.pending.specs.declared.Pend.{Pend}
use Rattle.pending.specs.Pending.{View, calls, bars, plain, is_blank, byte_view, grave_view, kind_view, is_call, view}
use Rattle.pending.specs.References.{Space, is_joined, part_in, raw_of, pending_by}
use Rattle.pending.proofs.Viewing.{view_clear}
use Rattle.expand.specs.Expanding.{Outer, spelled, writes}

-- ---- bytes behind the first of a buffer

part_whole : (w : List ℕ) → part w 0 (length w) ≡ w
part_whole w = take_all (length w - 0) w (omega arith)

-- w, joined, is added behind the first byte of o, which has room for it
module _ (o o' w : List ℕ) (long : length w + 3 ≤ length o) (r : Option ℕ) where
  pub joined_fits : {A : Type 0} → AddedBy r o o' 0 1 (joined_from false (part w 0 (length w))) → r ≡ None → A
  joined_fits a e =
      let d : length o < 1 + length (joined_from false w) = subst (λ (x : Option ℕ). AddedBy x o o' 0 1 (joined_from false w)) e (rw part_whole at a) in
      absurd (omega (arith, joined_length false w))

-- ---- a token's bytes as they stand

part_short : (s : List ℕ) (i e : ℕ) → length (part s i e) ≤ length s
part_short s i e = rw (length-take, length-drop) (omega arith)

pub raw_length : (s b : List ℕ) (p : Pend) → length s ≤ 65535 → length b ≤ 65536 → length (raw_of s b p) ≤ 65536
unfolding raw_of part_in
raw_length s b p f g =
    by_test Short (eqb p.source 2) (λ e. omega arith)
    (λ e. by_test Short (eqb p.source 0 || eqb p.source 3) (λ e. omega (arith, part_short s p.start p.end))
    (λ e. by_test Short (eqb p.source 1 || eqb p.source 4) (λ e. omega (arith, part_short b p.start p.end)) (λ e. omega arith)))
  where
    Short : List ℕ → Type 0
    Short w = length w ≤ 65536

-- ---- usages

abbrev IsNone : View → Type 0
IsNone v = is_call v ≡ false

byte_none : (b : ℕ) → IsNone (byte_view b)
byte_none b =
    by_test IsNone (eqb b 40) (λ e. refl)
    (λ e. by_test IsNone (eqb b 91) (λ e. refl)
    (λ e. by_test IsNone (eqb b 123) (λ e. refl)
    (λ e. by_test IsNone (eqb b 41 || (eqb b 93 || eqb b 125)) (λ e. refl)
    (λ e. by_test IsNone (eqb b 44) (λ e. refl) (λ e. refl)))))

kind_none : (k x : ℕ) (w : List ℕ) → eqb k Grave ≡ false → IsNone (kind_view k x w)
unfolding kind_view
kind_none k x w n =
    by_test IsNone (is_blank k) (λ e. refl)
    (λ e. by_test IsNone (eqb k Name || eqb k Escaped) (λ e. refl)
    (λ e. by_test IsNone (eqb k Quote) (λ e. refl)
    (λ e. by_test IsNone (eqb k Grave) (λ e. true_false (eqb k Grave) e n)
    (λ e. by_test IsNone (eqb k Byte) (λ e. byte_none x) (λ e. refl)))))

grave_call : (w : List ℕ) → is_call (grave_view w) ≡ eqb (directive_of w) 0
grave_call w = go (directive_of w) (eqb (directive_of w) 0) refl
  where
    go : (d : ℕ) (t : Bool) → eqb d 0 ≡ t → is_call (cond (ltb 2 d) (bars 14 0) (cond (ltb 0 d) plain (calls w))) ≡ eqb d 0
    go d true e = rw (eqb-true d 0 e)
    go d false e =
        let h : 0 < d = omega (arith, eqb-false) in
        rw (e, lt-ltb 0 d h) (by_test IsNone (ltb 2 d) (λ e. refl) (λ e. refl))

kind_call : (k x : ℕ) (w : List ℕ) → k ≡ Grave → is_call (kind_view k x w) ≡ eqb (directive_of w) 0
unfolding kind_view
kind_call k x w e = rw e (grave_call w)

module _ (s b : List ℕ) (p : Pend) where
  pub usage_none : eqb p.kind Grave ≡ false → false ≡ is_call (view (pending_by s b p))
  unfolding pending_by
  usage_none n = sym (ap is_call (view_clear (pending_by s b p) refl) ∙ kind_none p.kind _ _ n)

  -- by the number d of its name n
  pub usage_grave : p.kind ≡ Grave → (n : List ℕ) (d : ℕ) → d ≡ directive_of n → n ≡ (pending_by s b p).name → eqb d 0 ≡ is_call (view (pending_by s b p))
  unfolding pending_by
  usage_grave k n d e f =
      ap (λ (x : ℕ). eqb x 0) (e ∙ ap directive_of f) ∙ sym (ap is_call (view_clear (pending_by s b p) refl) ∙ kind_call p.kind _ _ k)

-- ---- what is written of a token

and_false : (a : Bool) → (a && false) ≡ false
and_false true = refl
and_false false = refl

module _ (s b : List ℕ) (p : Pend) where
  pub spelled_escaped : p.kind ≡ Escaped → spelled (pending_by s b p) ≡ raw_of s b p ++ (32 ∷ [])
  unfolding pending_by
  spelled_escaped e = rw e

  pub spelled_space : (p.kind ≡ Escaped → ⊥) → p.source ≡ Space → spelled (pending_by s b p) ≡ 32 ∷ []
  unfolding pending_by raw_of
  spelled_space n e =
      let j : is_joined p ≡ false = rw e (and_false (eqb p.kind String)) in
      rw (ne_eqb p.kind Escaped n, j, e)

  pub spelled_joined : (p.kind ≡ Escaped → ⊥) → is_joined p ≡ true → spelled (pending_by s b p) ≡ joined_from false (raw_of s b p)
  unfolding pending_by
  spelled_joined n e = rw (ne_eqb p.kind Escaped n, e)

  pub spelled_raw : (p.kind ≡ Escaped → ⊥) → is_joined p ≡ false → spelled (pending_by s b p) ≡ raw_of s b p
  unfolding pending_by
  spelled_raw n e = rw (ne_eqb p.kind Escaped n, e)

  module _ (o : Outer) where
    pub writes_quote : p.kind ≡ Quote → writes o (pending_by s b p) ≡ 34 ∷ []
    unfolding pending_by writes
    writes_quote e = rw e

    pub writes_escaped_quote : p.kind ≡ EscapedQuote → writes o (pending_by s b p) ≡ 92 ∷ 34 ∷ []
    unfolding pending_by writes
    writes_escaped_quote e = rw e

    pub writes_joiner : p.kind ≡ Joiner → writes o (pending_by s b p) ≡ []
    unfolding pending_by writes
    writes_joiner e = rw e

    -- one of the two `__` words, by the number d of its name n
    module _ (k : p.kind ≡ Grave) (n : List ℕ) (d : ℕ) (e : d ≡ directive_of n) (f : n ≡ (pending_by s b p).name) where
      pub writes_file : d ≡ FileWord → writes o (pending_by s b p) ≡ o.file
      unfolding pending_by writes
      writes_file q = rw (k, ← f, ← e, q)

      pub writes_line : (d ≡ FileWord → ⊥) → writes o (pending_by s b p) ≡ o.line
      unfolding pending_by writes
      writes_line q = rw (k, ← f, ← e, ne_eqb d FileWord q)

    pub writes_spelled : (p.kind ≡ Quote → ⊥) → (p.kind ≡ EscapedQuote → ⊥) → (p.kind ≡ Joiner → ⊥) → (p.kind ≡ Grave → ⊥)
        → writes o (pending_by s b p) ≡ spelled (pending_by s b p)
    unfolding pending_by writes
    writes_spelled q e j g = rw (ne_eqb p.kind Quote q, ne_eqb p.kind EscapedQuote e, ne_eqb p.kind Joiner j, ne_eqb p.kind Grave g)
