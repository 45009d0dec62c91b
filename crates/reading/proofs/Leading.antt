-- Tokens that are copied or skipped, one that has no room or is barred, and a conditional word are turns.
-- Assumes nothing.
use Prim.Native.Nat.{ℕ, ◌+◌, ◌-◌, ◌<◌, ◌≤◌}
use mathlib.Core.Bool.{Bool, true, false, not, ◌&&◌}
use mathlib.Core.List.{List, []}
use mathlib.Core.Path.{◌≡◌, refl, sym, ap, ◌∙◌}
use native.Mathlib.Omega.{arith}
use lib.Dec.{eqb, leb}
use lib.ListN.{length}
use borrow.Author.Tests.{ne_eqb, eq-eqb, le-leb, leb-true, leb-false}
use Rattle.text.specs.Bytes.{part, same, bytes}
use Rattle.lex.specs.Tokens.{in_file, Grave, End, is, name_of, token_at}
use Rattle.lex.specs.declared.Token.{Token}
use Rattle.lex.proofs.Tests.{true_false}
use Rattle.lex.proofs.Progress.{token-at, token_past, token_ends, token_some}
use Rattle.names.specs.Names.{Ifdef, Endif, number_in, macro_directives, state_directives, other_directives, other_of, state_of, directive_of}
use Rattle.definition.specs.Definitions.{Macro}
use Rattle.settings.specs.declared.Settings.{Settings}
use Rattle.writing.specs.Written.{Written, placed, Room, Put, full, fitted, put_in}
use Rattle.places.specs.Places.{place_of}
use Rattle.blocks.specs.Blocks.{Conditional, taken_by}
use Rattle.copying.specs.declared.Cursor.{Cursor}
use Rattle.copying.specs.Cursors.{stops_at, cursor_past}
use Rattle.copying.specs.Copying.{token_on, copy_of, Copies, Skips}
use Rattle.handover.specs.Entries.{body_of}
use Rattle.turns.specs.States.{Context, Frame, nothing, writes, more, stop, Here, refuse, frames_at, on_put, place_here}
use Rattle.turns.specs.Acts.{copies, skips, conditional_act, act_at}
use Rattle.turns.specs.Performing.{perform}
use Rattle.turns.specs.Turns.{token_turn, turn_at}
use Rattle.turns.specs.Leading.{Leads, standing}
use Rattle.places.proofs.Levels.{or_left, or_right}

-- ---- what a token does

module _ (h : Here) where
  module _ (g : stops_at h.token ≡ false) where
    no_grave : is Grave h.token ≡ false
    no_grave = or_left (is Grave h.token) _ g

    no_end : is End h.token ≡ false
    no_end = or_left (is End h.token) _ (or_right (is Grave h.token) _ g)

    no_bar : not (eqb h.token.bar 0) ≡ false
    no_bar = or_right (is End h.token) _ (or_right (is Grave h.token) _ g)

    token_copied : taken_by h.state.conds ≡ true → token_turn h ≡ perform h copies
    unfolding act_at
    token_copied k = simp (no_grave, no_end, no_bar, k)

    token_skipped : taken_by h.state.conds ≡ false → token_turn h ≡ perform h skips
    unfolding act_at
    token_skipped k = simp (no_grave, no_end, no_bar, k)

  token_barred : (h.token.bar ≡ 0 → ⊥) → token_turn h ≡ refuse h h.token.bar
  unfolding act_at
  token_barred n = simp (ne_eqb h.token.bar 0 n)

  token_chosen : h.token.bar ≡ 0 → is End h.token ≡ false → is Grave h.token ≡ true
      → (leb Ifdef (directive_of (name_of h.body h.token)) && leb (directive_of (name_of h.body h.token)) Endif) ≡ true
      → token_turn h ≡ perform h (conditional_act (directive_of (name_of h.body h.token)) h)
  unfolding act_at
  token_chosen b e g k = simp (eq-eqb h.token.bar 0 b, e, g, k)

-- the token at a cursor, with this around it
abbrev pub here_on : Context → List Frame → List Macro → Settings → ℕ → ℕ → List ℕ → Cursor → List Conditional → Room → Here
here_on a fs ms st left file s c cs r =
    record {
      context = a;
      state = standing fs ms st left file c cs r;
      frame = record { file = file; cursor = c };
      others = fs;
      body = s;
      token = token_on s c;
    }

module _ (a : Context) (fs : List Frame) (ms : List Macro) (st : Settings) (left file : ℕ) (s : List ℕ) (body : body_of a.store a.table file ≡ s) where
  turn_on : (c : Cursor) (cs : List Conditional) (r : Room) → turn_at a (standing fs ms st left file c cs r) ≡ token_turn (here_on a fs ms st left file s c cs r)
  unfolding turn_at
  turn_on c cs r = ap (λ (b : List ℕ). token_turn (here_on a fs ms st left file b c cs r)) body

  module _ (c : Cursor) (cs : List Conditional) (r : Room) where
    module _ (g : stops_at (token_on s c) ≡ false) where
      module _ (k : taken_by cs ≡ true) where
        -- the token is written, or has no room
        copy_put : turn_at a (standing fs ms st left file c cs r)
            ≡ on_put (here_on a fs ms st left file s c cs r) (copy_of s (place_of file 0) c) (frames_at (here_on a fs ms st left file s c cs r) (cursor_past s true (token_on s c) c)) st (put_in r (copy_of s (place_of file 0) c))
        unfolding copy_of
        copy_put =
            let h : Here = here_on a fs ms st left file s c cs r in
            let q : place_here h ≡ place_of file 0 + c.line = omega arith in
            turn_on c cs r ∙ token_copied h g k
            ∙ ap (λ (p : ℕ). on_put h (placed 1 p (part s c.at (token_on s c).end)) (frames_at h (cursor_past s true (token_on s c) c)) st (put_in r (placed 1 p (part s c.at (token_on s c).end)))) q

        copy_turn : (r₁ : Room) → put_in r (copy_of s (place_of file 0) c) ≡ fitted r₁
            → turn_at a (standing fs ms st left file c cs r) ≡ more (standing fs ms st left file (cursor_past s true (token_on s c) c) cs r₁) (writes (copy_of s (place_of file 0) c))
        copy_turn r₁ e =
            let h : Here = here_on a fs ms st left file s c cs r in
            copy_put ∙ ap (λ (p : Put). on_put h (copy_of s (place_of file 0) c) (frames_at h (cursor_past s true (token_on s c) c)) st p) e

        pub full_turn : (n : ℕ) → put_in r (copy_of s (place_of file 0) c) ≡ full n → turn_at a (standing fs ms st left file c cs r) ≡ stop n file c.at nothing
        full_turn n e =
            let h : Here = here_on a fs ms st left file s c cs r in
            copy_put ∙ ap (λ (p : Put). on_put h (copy_of s (place_of file 0) c) (frames_at h (cursor_past s true (token_on s c) c)) st p) e
            ∙ ap (λ (i : ℕ). stop n file i nothing) (token-at in_file s c.at)

      skip_turn : taken_by cs ≡ false
          → turn_at a (standing fs ms st left file c cs r) ≡ more (standing fs ms st left file (cursor_past s false (token_on s c) c) cs r) nothing
      skip_turn k = turn_on c cs r ∙ token_skipped (here_on a fs ms st left file s c cs r) g k

    pub barred_turn : {t : Token} → t ≡ token_on s c → (t.bar ≡ 0 → ⊥) → turn_at a (standing fs ms st left file c cs r) ≡ stop t.bar file t.at nothing
    barred_turn {t} q n =
        let m : (token_on s c).bar ≡ 0 → ⊥ = λ z. n (ap (λ (x : Token). x.bar) q ∙ z) in
        turn_on c cs r ∙ token_barred (here_on a fs ms st left file s c cs r) m ∙ ap (λ (x : Token). stop x.bar file x.at nothing) (sym q)

    pub word_turn : (token_on s c).bar ≡ 0 → is End (token_on s c) ≡ false → is Grave (token_on s c) ≡ true → (d : ℕ) → d ≡ directive_of (name_of s (token_on s c)) → 6 ≤ d → d ≤ 10
        → turn_at a (standing fs ms st left file c cs r) ≡ perform (here_on a fs ms st left file s c cs r) (conditional_act d (here_on a fs ms st left file s c cs r))
    word_turn b e g d q l u =
        let h : Here = here_on a fs ms st left file s c cs r in
        let k : (leb Ifdef d && leb d Endif) ≡ true = rw (le-leb Ifdef d l, le-leb d Endif u) in
        turn_on c cs r ∙ token_chosen h b e g (rw q at k) ∙ ap (λ (n : ℕ). perform h (conditional_act n h)) (sym q)

  pub copies_lead : (cs : List Conditional) {c c' : Cursor} {r r' : Room} {ws : List Written} → taken_by cs ≡ true → Copies s (place_of file 0) c r ws c' r'
      → Leads a (standing fs ms st left file c cs r) ws (standing fs ms st left file c' cs r')
  copies_lead cs k Copies.none = Leads.here
  copies_lead cs k (Copies.more {c} {r = r} {r₁} g e h) = Leads.then (copy_turn c cs r g k r₁ e) (copies_lead cs k h)

  pub skips_lead : (cs : List Conditional) {c c' : Cursor} (r : Room) → taken_by cs ≡ false → Skips s c c'
      → Leads a (standing fs ms st left file c cs r) [] (standing fs ms st left file c' cs r)
  skips_lead cs r k Skips.none = Leads.here
  skips_lead cs r k (Skips.more {c} g h) = Leads.then (skip_turn c cs r g k) (skips_lead cs r k h)

-- ---- reading goes on

module _ (s : List ℕ) where
  token_onward : (i : ℕ) → i ≤ (token_at in_file s i).end
  token_onward i = go (leb (length s) i) refl
    where
      go : (b : Bool) → leb (length s) i ≡ b → i ≤ (token_at in_file s i).end
      go true e = rw (token_past in_file s i (leb-true (length s) i e)) (omega arith)
      go false e = omega (arith, token_ends in_file s i (leb-false (length s) i e))

  pub copies_onward : {base : ℕ} {c c' : Cursor} {r r' : Room} {ws : List Written} → Copies s base c r ws c' r' → c.at ≤ c'.at
  unfolding cursor_past
  copies_onward Copies.none = omega arith
  copies_onward (Copies.more {c} g e h) = omega (arith, token_onward c.at, copies_onward h)

  pub skips_onward : {c c' : Cursor} → Skips s c c' → c.at ≤ c'.at
  unfolding cursor_past
  skips_onward Skips.none = omega arith
  skips_onward (Skips.more {c} g h) = omega (arith, token_onward c.at, skips_onward h)

-- ---- a directive's word

nothing_named : directive_of [] ≡ 0
unfolding directive_of state_of other_of macro_directives state_directives other_directives number_in same bytes
nothing_named = refl

-- it stands in the file, behind a grave accent
module _ (s : List ℕ) (c : Cursor) where
  pub word_inside : (d : ℕ) → d ≡ directive_of (name_of s (token_on s c)) → 6 ≤ d → c.at < length s
  word_inside d q l = go (leb (length s) c.at) refl
    where
      go : (b : Bool) → leb (length s) c.at ≡ b → c.at < length s
      go true e =
          let z : c.at - c.at ≡ 0 = omega arith in
          let n : directive_of (name_of s (token_on s c)) ≡ 0 = rw (token_past in_file s c.at (leb-true (length s) c.at e), z) nothing_named in
          absurd (omega arith)
      go false e = leb-false (length s) c.at e

  pub word_grave : c.at < length s → stops_at (token_on s c) ≡ true → (token_on s c).bar ≡ 0 → is Grave (token_on s c) ≡ true
  word_grave h g b = go (is Grave (token_on s c)) refl
    where
      go : (t : Bool) → is Grave (token_on s c) ≡ t → is Grave (token_on s c) ≡ true
      go true e = e
      go false e = true_false (stops_at (token_on s c)) g (rw (e, token_some in_file s c.at h, b))
