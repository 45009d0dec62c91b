-- The `(` of an argument list, sought past white space, newlines and comments.
-- Assumes nothing.
use Prim.Native.Nat.{ℕ, ◌≤◌}
use mathlib.Core.Bool.{Bool, true, false, cond, ◌||◌}
use mathlib.Core.List.{List, [], ◌∷◌}
use mathlib.Core.Path.{◌≡◌, refl, ◌∙◌, subst}
use lib.Dec.{eqb}
use lib.ListN.{get_or}
use borrow.Author.Tests.{ne_eqb}
use Rattle.lex.specs.Tokens.{Name, Escaped, Quote, Grave, Byte}
use Rattle.names.specs.Names.{is_directive, bars_text}
use Rattle.pending.specs.declared.Item.{Item}
use Rattle.pending.specs.Pending.{Pending, View, calls, names, opens, closes, commas, bars, plain, is_blank, grave_view, byte_view, kind_view, view}
use Rattle.pending.specs.References.{raw_of, pending_by}
use Rattle.pending.specs.Sources.{item_of, ItemIs}
use Rattle.arguments.specs.Arguments.{Args, bad, collect, seek_by, seek}
use Rattle.arguments.proofs.Moves.{item_shut, item_clear}

-- ---- a token that nothing bars, by its kind k, its first byte b and its name w

module _ (found more : Args) where
  abbrev By : View → Args → Type 0
  By v a = seek_by v found more ≡ a

  by_grave : (w : List ℕ) → By (grave_view w) (bad 14 0)
  by_grave w = go (bars_text w) (is_directive w)
    where
      go : (s t : Bool) → By (cond s (bars 14 0) (cond t plain (calls w))) (bad 14 0)
      go true t = refl
      go false true = refl
      go false false = refl

  by_byte : (b : ℕ) → (b ≡ 40 → ⊥) → By (byte_view b) (bad 14 0)
  by_byte b h = rw (ne_eqb b 40 h) (go (eqb b 91) (eqb b 123) (eqb b 41 || (eqb b 93 || eqb b 125)) (eqb b 44))
    where
      go : (s t u v : Bool) → By (cond s (opens 93) (cond t (opens 125) (cond u (closes b) (cond v commas plain)))) (bad 14 0)
      go true t u v = refl
      go false true u v = refl
      go false false true v = refl
      go false false false true = refl
      go false false false false = refl

  module _ (k b : ℕ) (w : List ℕ) where
    by_blank : is_blank k ≡ true → By (kind_view k b w) more
    unfolding kind_view
    by_blank e = rw e

    by_open : k ≡ Byte → b ≡ 40 → By (kind_view k b w) found
    unfolding kind_view
    by_open e q = rw (e, q)

    by_closed : k ≡ Byte → (b ≡ 40 → ⊥) → By (kind_view k b w) (bad 14 0)
    unfolding kind_view
    by_closed e h = rw e (by_byte b h)

    by_other : is_blank k ≡ false → (k ≡ Byte → ⊥) → By (kind_view k b w) (bad 14 0)
    unfolding kind_view
    by_other e h = rw (e, ne_eqb k Byte h) (go (eqb k Name || eqb k Escaped) (eqb k Quote) (eqb k Grave))
      where
        go : (s t u : Bool) → By (cond s (names w) (cond t (bars 14 0) (cond u (grave_view w) plain))) (bad 14 0)
        go true t u = refl
        go false true u = refl
        go false false true = by_grave w
        go false false false = refl

-- ---- the tokens f from i on

seek_one : (ps : List Pending) (p : Pending) (qs : List Pending) → ps ≡ p ∷ qs → seek ps ≡ seek_by (view p) (collect qs []) (seek qs)
unfolding seek
seek_one ps p qs e = rw e

pub opening_out : {ps : List Pending} → ps ≡ [] → seek ps ≡ bad 14 0
unfolding seek
opening_out q = rw q

-- .. with the token t
module _ {f : ℕ → List Pending} {last i : ℕ} (s b : List ℕ) (t : Item) (h : ItemIs f last i (item_of s b t) t.next) where
  abbrev Goes : View → Type 0
  Goes v = seek (f i) ≡ seek_by v (collect (f t.next) []) (seek (f t.next))

  goes : Goes (view (item_of s b t))
  goes = seek_one (f i) (item_of s b t) (f t.next) h.tokens

  pub opening_shut : (t.bar ≡ 0 → ⊥) → seek (f i) ≡ bad t.bar t.at
  opening_shut g = subst (λ (v : View). Goes v) (item_shut s b t g) goes

  module _ (g : t.bar ≡ 0) where
    clear : (x : ℕ) → x ≡ get_or (raw_of s b t.pend) 0 0 → Goes (kind_view t.pend.kind x (pending_by s b t.pend).name)
    clear x q = subst (λ (v : View). Goes v) (item_clear s b t x (pending_by s b t.pend).name g q refl) goes

    any : Goes (kind_view t.pend.kind (get_or (raw_of s b t.pend) 0 0) (pending_by s b t.pend).name)
    any = clear (get_or (raw_of s b t.pend) 0 0) refl

    pub opening_blank : is_blank t.pend.kind ≡ true → seek (f i) ≡ seek (f t.next)
    opening_blank q = any ∙ by_blank _ _ _ _ _ q

    pub opening_other : is_blank t.pend.kind ≡ false → (t.pend.kind ≡ Byte → ⊥) → seek (f i) ≡ bad 14 0
    opening_other q k = any ∙ by_other _ _ _ _ _ q k

    module _ (k : t.pend.kind ≡ Byte) {x : ℕ} (q : x ≡ get_or (raw_of s b t.pend) 0 0) where
      pub opening_here : x ≡ 40 → (seek (f i) ≡ collect (f t.next) []) × (t.next ≤ last)
      opening_here z = (clear x q ∙ by_open _ _ _ _ _ k z, h.within)

      pub opening_closed : (x ≡ 40 → ⊥) → seek (f i) ≡ bad 14 0
      opening_closed z = clear x q ∙ by_closed _ _ _ _ _ k z
