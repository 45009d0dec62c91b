-- Comments made spaces and white space dropped leave lists and brackets as they are.
-- Assumes nothing.
use mathlib.Core.Path.{◌≡◌, refl, sym, ap, ◌∙◌, subst}
use mathlib.Core.Bool.{Bool, true, false, cond, ◌&&◌, ◌||◌}
use mathlib.Core.List.{List, [], ◌∷◌}
use Prim.Native.Nat.{ℕ, suc}
use native.Mathlib.Omega.{arith}
use lib.Dec.{eqb}
use lib.ListN.{get_or}
use borrow.Author.Tests.{eqb-true}
use Rattle.lex.proofs.Tests.{and_left, and_right}
use Rattle.lex.specs.Tokens.{White, String, Byte}
use Rattle.storing.specs.Stored.{joined_from}
use Rattle.pending.specs.Pending.{Pending, View, blanks, opens, plain, byte_view, is_spacing, is_comment, kind_view, view, is_barred}
use Rattle.pending.proofs.Viewing.{free_bar}
use Rattle.arguments.specs.Arguments.{keep, close, move_of}
use Rattle.arguments.proofs.Moves.{stays_free}
use Rattle.replace.specs.Tidying.{cleaned, before_newline, is_backslash, cleaned_all, drop_left, keep_last, drop_right}
use Rattle.passing.proofs.Lists.{views, keep_close, keep_part, keep_fail, keep_same, Counted, last, kept, parted, Shut, more, Listed, skip, opened}

-- ---- cleaning

or_right : (a b : Bool) → b ≡ true → (a || b) ≡ true
or_right true b h = refl
or_right false b h = h

comment_view : (p : Pending) → eqb p.bar 0 ≡ true → is_comment p.kind ≡ true → view p ≡ blanks
unfolding view kind_view
comment_view p u h = rw (u, or_right (is_spacing p.kind) (is_comment p.kind) h)

spacing_view : (p : Pending) → eqb p.bar 0 ≡ true → is_spacing p.kind ≡ true → view p ≡ blanks
unfolding view kind_view
spacing_view p u h = rw (u, h)

string_kind : (b : ℕ) (w : List ℕ) → kind_view String b w ≡ plain
unfolding kind_view
string_kind b w = refl

string_view : (p : Pending) → eqb p.bar 0 ≡ true → eqb p.kind String ≡ true → view p ≡ plain
unfolding view
string_view p u h =
    rw (u) (ap (λ (k : ℕ). kind_view k (get_or p.bytes 0 0) p.name) (eqb-true p.kind String h) ∙ string_kind (get_or p.bytes 0 0) p.name)

backslash_kind : (b : ℕ) (w : List ℕ) → eqb b 92 ≡ true → kind_view Byte b w ≡ plain
unfolding kind_view
backslash_kind b w h = ap (λ (c : ℕ). byte_view c) (eqb-true b 92 h)

backslash_view : (p : Pending) → eqb p.bar 0 ≡ true → is_backslash p ≡ true → view p ≡ plain
unfolding view
backslash_view p u h =
    rw (u)
    (ap (λ (k : ℕ). kind_view k (get_or p.bytes 0 0) p.name) (eqb-true p.kind Byte (and_left (eqb p.kind Byte) (eqb (get_or p.bytes 0 0) 92) h))
    ∙ backslash_kind (get_or p.bytes 0 0) p.name (and_right (eqb p.kind Byte) (eqb (get_or p.bytes 0 0) 92) h))

cleaned_comment : (p : Pending) → view (record { kind = White; bytes = 32 ∷ []; name = []; own = p.own; at = 0; bar = 0 }) ≡ blanks
unfolding view kind_view
cleaned_comment p = refl

cleaned_string : (p : Pending) → view (record { kind = String; bytes = joined_from false p.bytes; name = p.name; own = p.own; at = 0; bar = 0 }) ≡ plain
unfolding view kind_view
cleaned_string p = refl

cleaned_other : (p : Pending) → eqb p.bar 0 ≡ true → view (record { kind = p.kind; bytes = p.bytes; name = p.name; own = p.own; at = 0; bar = 0 }) ≡ view p
unfolding view
cleaned_other p u = rw u

-- a token that nothing bars is in a list what it is cleaned
pub view_cleaned : (p : Pending) → eqb p.bar 0 ≡ true → view (cleaned p) ≡ view p
view_cleaned p u = go (is_comment p.kind) refl (eqb p.kind String) refl
  where
    go : (a : Bool) → is_comment p.kind ≡ a → (b : Bool) → eqb p.kind String ≡ b
        → view (cond a (record { kind = White; bytes = 32 ∷ []; name = []; own = p.own; at = 0; bar = 0 })
        (cond b (record { kind = String; bytes = joined_from false p.bytes; name = p.name; own = p.own; at = 0; bar = 0 })
        (record { kind = p.kind; bytes = p.bytes; name = p.name; own = p.own; at = 0; bar = 0 }))) ≡ view p
    go true e b f = cleaned_comment p ∙ sym (comment_view p u e)
    go false e true f = cleaned_string p ∙ sym (string_view p u f)
    go false e false f = cleaned_other p u

cleaned_move : (p : Pending) (due : List ℕ) → eqb p.bar 0 ≡ true → move_of (view (cleaned p)) due ≡ move_of (view p) due
cleaned_move p due u = ap (λ (v : View). move_of v due) (view_cleaned p u)

pub keep_unbarred : (p : Pending) (due d : List ℕ) → move_of (view p) due ≡ keep d → eqb p.bar 0 ≡ true
keep_unbarred p due d h = free_bar p (stays_free (view p) due (λ n i. keep_fail (move_of (view p) due) d n i h))

close_unbarred : (p : Pending) (due : List ℕ) → move_of (view p) due ≡ close → eqb p.bar 0 ≡ true
close_unbarred p due h = free_bar p (stays_free (view p) due (λ n i q. let z : ◌≡◌ {A = ℕ} 0 1 = cc in omega arith))

-- a `\` that is left out is plain
left_out : (p : Pending) (ps : List Pending) (due : List ℕ) → eqb p.bar 0 ≡ true → (is_backslash p && before_newline ps) ≡ true → move_of (view p) due ≡ keep due
left_out p ps due u h = ap (λ (v : View). move_of v due) (backslash_view p u (and_left (is_backslash p) (before_newline ps) h))

pub shut_cleaned : (ps : List Pending) {due : List ℕ} → Shut (views ps) due → Shut (views (cleaned_all ps)) due
unfolding cleaned_all
shut_cleaned [] s = s
shut_cleaned (p ∷ ps) {due} (more d h k) = go (is_backslash p && before_newline ps) refl (shut_cleaned ps k)
  where
    u : eqb p.bar 0 ≡ true
    u = keep_unbarred p due d h

    go : (b : Bool) → (is_backslash p && before_newline ps) ≡ b → Shut (views (cleaned_all ps)) d → Shut (views (cond b (cleaned_all ps) (cleaned p ∷ cleaned_all ps))) due
    go true e s = subst (λ (z : List ℕ). Shut (views (cleaned_all ps)) z) (keep_same (move_of (view p) due) d due h (left_out p ps due u e)) s
    go false e s = more d (cleaned_move p due u ∙ h) s

pub counted_cleaned : (ps : List Pending) {due : List ℕ} {n : ℕ} → Counted (views ps) due n → Counted (views (cleaned_all ps)) due n
unfolding cleaned_all
counted_cleaned [] h = elim h [ ]
counted_cleaned (p ∷ ps) {due} (last h) = go (is_backslash p && before_newline ps) refl
  where
    u : eqb p.bar 0 ≡ true
    u = close_unbarred p due h

    go : (b : Bool) → (is_backslash p && before_newline ps) ≡ b → Counted (views (cond b (cleaned_all ps) (cleaned p ∷ cleaned_all ps))) due 1
    go true e = keep_close (move_of (view p) due) due (left_out p ps due u e) h
    go false e = last (cleaned_move p due u ∙ h)
counted_cleaned (p ∷ ps) {due} {n} (kept d h c) = go (is_backslash p && before_newline ps) refl (counted_cleaned ps c)
  where
    u : eqb p.bar 0 ≡ true
    u = keep_unbarred p due d h

    go : (b : Bool) → (is_backslash p && before_newline ps) ≡ b → Counted (views (cleaned_all ps)) d n → Counted (views (cond b (cleaned_all ps) (cleaned p ∷ cleaned_all ps))) due n
    go true e g = subst (λ (z : List ℕ). Counted (views (cleaned_all ps)) z n) (keep_same (move_of (view p) due) d due h (left_out p ps due u e)) g
    go false e g = kept d (cleaned_move p due u ∙ h) g
counted_cleaned (p ∷ ps) {due} (parted {n = m} h c) = go (is_backslash p && before_newline ps) refl (counted_cleaned ps c)
  where
    u : eqb p.bar 0 ≡ true
    u = free_bar p (stays_free (view p) due (λ n i q. let z : ◌≡◌ {A = ℕ} 0 1 = cc in omega arith))

    go : (b : Bool) → (is_backslash p && before_newline ps) ≡ b → Counted (views (cleaned_all ps)) [] m → Counted (views (cond b (cleaned_all ps) (cleaned p ∷ cleaned_all ps))) due (suc m)
    go true e g = keep_part (move_of (view p) due) due (left_out p ps due u e) h
    go false e g = parted (cleaned_move p due u ∙ h) g

pub listed_cleaned : (ps : List Pending) {n : ℕ} → Listed (views ps) n → Listed (views (cleaned_all ps)) n
unfolding cleaned_all
listed_cleaned [] h = elim h [ ]
listed_cleaned (p ∷ ps) {n} (skip e l) = go (is_backslash p && before_newline ps) refl (listed_cleaned ps l)
  where
    u : eqb p.bar 0 ≡ true
    u = free_bar p (ap is_barred e)

    go : (b : Bool) → (is_backslash p && before_newline ps) ≡ b → Listed (views (cleaned_all ps)) n → Listed (views (cond b (cleaned_all ps) (cleaned p ∷ cleaned_all ps))) n
    go true k g = g
    go false k g = skip (view_cleaned p u ∙ e) g
listed_cleaned (p ∷ ps) {n} (opened e c) = go (is_backslash p && before_newline ps) refl (counted_cleaned ps c)
  where
    u : eqb p.bar 0 ≡ true
    u = free_bar p (ap is_barred e)

    go : (b : Bool) → (is_backslash p && before_newline ps) ≡ b → Counted (views (cleaned_all ps)) [] n → Listed (views (cond b (cleaned_all ps) (cleaned p ∷ cleaned_all ps))) n
    go true k g =
        let x : opens 41 ≡ plain = sym e ∙ backslash_view p u (and_left (is_backslash p) (before_newline ps) k) in
        absurd (let z : ◌≡◌ {A = ℕ} 0 1 = cc in omega arith)
    go false k g = opened (view_cleaned p u ∙ e) g

-- ---- white space at the ends

spacing_keeps : (p : Pending) (due : List ℕ) → eqb p.bar 0 ≡ true → is_spacing p.kind ≡ true → move_of (view p) due ≡ keep due
spacing_keeps p due u h = ap (λ (v : View). move_of v due) (spacing_view p u h)

pub shut_left : (ps : List Pending) {due : List ℕ} → Shut (views ps) due → Shut (views (drop_left ps)) due
unfolding drop_left
shut_left [] s = s
shut_left (p ∷ ps) {due} (more d h k) = go (is_spacing p.kind) refl (shut_left ps k)
  where
    go : (b : Bool) → is_spacing p.kind ≡ b → Shut (views (drop_left ps)) d → Shut (views (cond b (drop_left ps) (p ∷ ps))) due
    go true e s =
        subst (λ (z : List ℕ). Shut (views (drop_left ps)) z) (keep_same (move_of (view p) due) d due h (spacing_keeps p due (keep_unbarred p due d h) e)) s
    go false e s = more d h k

pub shut_right : (ps : List Pending) {due : List ℕ} → Shut (views ps) due → Shut (views (drop_right ps)) due
unfolding drop_right
shut_right [] s = s
shut_right (p ∷ ps) {due} (more d h k) = go (drop_right ps) (shut_right ps k)
  where
    one : (b : Bool) → is_spacing p.kind ≡ b → Shut [] d → Shut (views (cond b [] (p ∷ []))) due
    one true e s =
        subst (λ (z : List ℕ). Shut [] z) (keep_same (move_of (view p) due) d due h (spacing_keeps p due (keep_unbarred p due d h) e)) s
    one false e s = more d h s

    go : (qs : List Pending) → Shut (views qs) d → Shut (views (keep_last p qs)) due
    go [] s = one (is_spacing p.kind) refl s
    go (q ∷ qs) s = more d h s

abbrev NotNil : List View → Type 0
NotNil [] = ⊥
NotNil (v ∷ vs) = Unit {0}

counted_some : {vs : List View} {due : List ℕ} {n : ℕ} → Counted vs due n → NotNil vs
counted_some (last h) = tt
counted_some (kept d h c) = tt
counted_some (parted h c) = tt

listed_some : {vs : List View} {n : ℕ} → Listed vs n → NotNil vs
listed_some (skip e l) = tt
listed_some (opened e c) = tt

pub counted_right : (ps : List Pending) {due : List ℕ} {n : ℕ} → Counted (views ps) due n → Counted (views (drop_right ps)) due n
unfolding drop_right
counted_right [] h = elim h [ ]
counted_right (p ∷ ps) {due} (last h) = go (drop_right ps)
  where
    one : (b : Bool) → is_spacing p.kind ≡ b → Counted (views (cond b [] (p ∷ []))) due 1
    one true e = keep_close (move_of (view p) due) due (spacing_keeps p due (close_unbarred p due h) e) h
    one false e = last h

    go : (qs : List Pending) → Counted (views (keep_last p qs)) due 1
    go [] = one (is_spacing p.kind) refl
    go (q ∷ qs) = last h
counted_right (p ∷ ps) {due} {n} (kept d h c) = go (drop_right ps) (counted_right ps c)
  where
    go : (qs : List Pending) → Counted (views qs) d n → Counted (views (keep_last p qs)) due n
    go [] g = absurd (counted_some g)
    go (q ∷ qs) g = kept d h g
counted_right (p ∷ ps) {due} (parted {n = m} h c) = go (drop_right ps) (counted_right ps c)
  where
    go : (qs : List Pending) → Counted (views qs) [] m → Counted (views (keep_last p qs)) due (suc m)
    go [] g = absurd (counted_some g)
    go (q ∷ qs) g = parted h g

pub listed_right : (ps : List Pending) {n : ℕ} → Listed (views ps) n → Listed (views (drop_right ps)) n
unfolding drop_right
listed_right [] h = elim h [ ]
listed_right (p ∷ ps) {n} (skip e l) = go (drop_right ps) (listed_right ps l)
  where
    go : (qs : List Pending) → Listed (views qs) n → Listed (views (keep_last p qs)) n
    go [] g = absurd (listed_some g)
    go (q ∷ qs) g = skip e g
listed_right (p ∷ ps) {n} (opened e c) = go (drop_right ps) (counted_right ps c)
  where
    go : (qs : List Pending) → Counted (views qs) [] n → Listed (views (keep_last p qs)) n
    go [] g = absurd (counted_some g)
    go (q ∷ qs) g = opened e g
