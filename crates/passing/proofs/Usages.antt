-- A text is without fault exactly if every usage in it names a macro of the set and is followed by a list that it accepts.
-- Assumes nothing.
use Prim.Native.Nat.{ℕ}
use native.Mathlib.Omega.{arith}
use mathlib.Core.Path.{◌≡◌, refl, sym, ap, ◌∙◌, subst}
use mathlib.Core.Bool.{Bool, true, false, cond}
use mathlib.Core.Logic.{◌↔◌}
use mathlib.Core.Option.{Option, none, some}
use mathlib.Core.List.{List, [], ◌∷◌, ◌++◌}
use lib.ListN.{length}
use Rattle.definition.specs.Definitions.{Parameter, Macro}
use Rattle.store.specs.Stores.{macro_at, find}
use Rattle.std.proofs.Common.{Result, Ok, Err}
use Rattle.pending.specs.Pending.{Pending, View, calls, is_call, view}
use Rattle.pending.proofs.Viewing.{by_usage}
use Rattle.arguments.specs.Arguments.{Args, bad, args, seek}
use Rattle.replace.specs.Replacing.{enough, barred, listed, accepted, list_for}
use Rattle.passing.specs.Passing.{or_next, formals_of, bar_of, found_fault, usage_fault, fault_of, text_fault}
use Rattle.passing.specs.Meaning.{Accepted, AllAccepted}
use Rattle.passing.proofs.Lists.{views}
use Rattle.passing.proofs.Reading.{Sized, sized, Sought, sought_of, sought_listed, seek_listed}
use Rattle.passing.proofs.Good.{Needs, needs_none, needs_list, Good, Fine, fine_nil, fine_call, fine_plain, fine_tail}

pub next_left : (a b : Option ℕ) → or_next a b ≡ none → a ≡ none
next_left none b h = refl
next_left (some n) b h = h

pub next_right : (a b : Option ℕ) → or_next a b ≡ none → b ≡ none
next_right none b h = h
next_right (some n) b h = absurd (let z : ◌≡◌ {A = ℕ} 0 1 = cc in omega arith)

-- ---- without fault, every usage is a good one

needs_sought : (f : Parameter) (fs : List Parameter) (ps : List Pending) (g : Args) → Sought ps g → bar_of (accepted (f ∷ fs) g) ≡ none → Needs (f ∷ fs) (views ps)
needs_sought f fs ps (bad n i) s h = absurd (let z : ◌≡◌ {A = ℕ} 0 1 = cc in omega arith)
needs_sought f fs ps (args a xs r) s h = go (enough (f ∷ fs) (length (a ∷ xs))) refl h
  where
    go : (b : Bool) → enough (f ∷ fs) (length (a ∷ xs)) ≡ b → bar_of (cond b (listed (a ∷ xs) r) (barred 15 0)) ≡ none → Needs (f ∷ fs) (views ps)
    go true e k = needs_list (length (a ∷ xs)) (sought_listed s) e
    go false e k = absurd (let z : ◌≡◌ {A = ℕ} 0 1 = cc in omega arith)

pub needs_of : (fs : List Parameter) (ps : List Pending) → bar_of (list_for fs ps) ≡ none → Needs fs (views ps)
needs_of [] ps h = needs_none
needs_of (f ∷ fs) ps h = needs_sought f fs ps (seek ps) (sought_of ps) h

module _ (ms : List Macro) where
  pub good_of : (w : List ℕ) (ps : List Pending) → usage_fault ms w ps ≡ none → Good ms w (views ps)
  unfolding usage_fault
  good_of w ps h = go (find w ms) refl h
    where
      go : (f : Result ℕ ℕ) → find w ms ≡ f → found_fault f ms ps ≡ none → Good ms w (views ps)
      go (Ok i) e k = record { number = i; stored = e; list = needs_of (formals_of (macro_at ms i)) ps k }
      go (Err i) e k = absurd (let z : ◌≡◌ {A = ℕ} 0 1 = cc in omega arith)

  fine_at : (p : Pending) (ps : List Pending) → fault_of (view p) ms ps ≡ none → Fine ms (views ps) → Fine ms (views (p ∷ ps))
  fine_at p ps =
      by_usage (λ (o : Option ℕ). o ≡ none → Fine ms (views ps) → Fine ms (views (p ∷ ps))) (view p) (λ e h f. fine_plain e f)
      (λ w e h f. fine_call e (good_of w ps h) f)

  pub fine_text : (ps : List Pending) → text_fault ms ps ≡ none → Fine ms (views ps)
  unfolding text_fault
  fine_text [] h = fine_nil
  fine_text (p ∷ ps) h =
      fine_at p ps (next_left (fault_of (view p) ms ps) (text_fault ms ps) h) (fine_text ps (next_right (fault_of (view p) ms ps) (text_fault ms ps) h))

  -- ---- in the words of demand 3

  record Taken (fs : List Parameter) (ps : List Pending) : Type 0 where
    arguments : List (List Pending)
    rest : List Pending
    taken : list_for fs ps ≡ listed arguments rest

  taken_sized : (f : Parameter) (fs : List Parameter) (ps : List Pending) {n : ℕ} (g : Args) → seek ps ≡ g → Sized g n → enough (f ∷ fs) n ≡ true → Taken (f ∷ fs) ps
  taken_sized f fs ps (args a xs r) q (sized e) k =
      record {
        arguments = a ∷ xs;
        rest = r;
        taken = ap (accepted (f ∷ fs)) q ∙ ap (λ (b : Bool). cond b (listed (a ∷ xs) r) (barred 15 0)) (subst (λ (n : ℕ). enough (f ∷ fs) n ≡ true) (sym e) k);
      }
  taken_sized f fs ps (bad _ _) q h k = elim h [ ]

  taken_needs : (fs : List Parameter) (ps : List Pending) → Needs fs (views ps) → Taken fs ps
  taken_needs [] ps needs_none = record { arguments = []; rest = ps; taken = refl }
  taken_needs (f ∷ fs) ps (needs_list n l e) = taken_sized f fs ps (seek ps) refl (seek_listed ps l) e

  pub accepted_good : (w : List ℕ) (ps : List Pending) → Good ms w (views ps) → Accepted ms w ps
  accepted_good w ps g =
      let t = taken_needs (formals_of (macro_at ms g.number)) ps g.list in
      record { number = g.number; stored = g.stored; arguments = t.arguments; rest = t.rest; taken = t.taken }

  split_fine : (before after : List Pending) (p : Pending) (w : List ℕ) → Fine ms (views (before ++ (p ∷ after))) → view p ≡ calls w → Accepted ms w after
  split_fine [] after p w (fine_call {w = u} e g f) v =
      let q : u ≡ w = cc in
      accepted_good w after (subst (λ (x : List ℕ). Good ms x (views after)) q g)
  split_fine [] after p w (fine_plain e f) v = absurd (let q : is_call (view p) ≡ true = ap is_call v in let z : ◌≡◌ {A = ℕ} 0 1 = cc in omega arith)
  split_fine (b ∷ before) after p w f v = split_fine before after p w (fine_tail f) v

  pub accepted_fine : (ps : List Pending) → Fine ms (views ps) → AllAccepted ms ps
  accepted_fine ps f = record { each = λ before after p w e v. split_fine before after p w (subst (λ (qs : List Pending). Fine ms (views qs)) e f) v }

  none_accepted : (w : List ℕ) (ps : List Pending) → Accepted ms w ps → usage_fault ms w ps ≡ none
  unfolding usage_fault
  none_accepted w ps a = ap (λ (f : Result ℕ ℕ). found_fault f ms ps) a.stored ∙ ap bar_of a.taken

  none_at : (p : Pending) (ps : List Pending) → ((w : List ℕ) → view p ≡ calls w → Accepted ms w ps) → fault_of (view p) ms ps ≡ none
  none_at p ps a = by_usage (λ (o : Option ℕ). o ≡ none) (view p) (λ e. refl) (λ w e. none_accepted w ps (a w e))

  accepted_tail : (p : Pending) (ps : List Pending) → AllAccepted ms (p ∷ ps) → AllAccepted ms ps
  accepted_tail p ps a = record { each = λ before after q w e v. a.each (p ∷ before) after q w (ap (λ (qs : List Pending). p ∷ qs) e) v }

  none_all : (ps : List Pending) → AllAccepted ms ps → text_fault ms ps ≡ none
  unfolding text_fault
  none_all [] a = refl
  none_all (p ∷ ps) a = ap (λ (x : Option ℕ). or_next x (text_fault ms ps)) (none_at p ps (λ w e. a.each [] ps p w refl e)) ∙ none_all ps (accepted_tail p ps a)

  pub text_exact : (ps : List Pending) → (text_fault ms ps ≡ none) ↔ AllAccepted ms ps
  text_exact ps = (λ h. accepted_fine ps (fine_text ps h), none_all ps)

  -- ---- the fault of a text is that of its first bad usage

  pub record FirstBad (ps : List Pending) (n : ℕ) : Type 0 where
    pub before : List Pending
    pub usage : Pending
    pub name : List ℕ
    pub after : List Pending
    pub text_is : ps ≡ before ++ (usage ∷ after)
    pub called : view usage ≡ calls name
    pub at_fault : usage_fault ms name after ≡ some n
    pub good_before : (a b : List Pending) (p : Pending) (w : List ℕ) → before ≡ a ++ (p ∷ b) → view p ≡ calls w → Accepted ms w (b ++ (usage ∷ after))

  bad_here : (p : Pending) (ps : List Pending) (n : ℕ) → fault_of (view p) ms ps ≡ some n → FirstBad (p ∷ ps) n
  bad_here p ps n =
      by_usage (λ (o : Option ℕ). o ≡ some n → FirstBad (p ∷ ps) n) (view p) (λ e h. absurd (let z : ◌≡◌ {A = ℕ} 0 1 = cc in omega arith))
      (λ w e h. record {
        before = [];
        usage = p;
        name = w;
        after = ps;
        text_is = refl;
        called = e;
        at_fault = h;
        good_before = λ a b q u k v. none_split a b q k;
      })
    where
      none_split : {A : Type 0} (a b : List Pending) (q : Pending) → [] ≡ a ++ (q ∷ b) → A
      none_split [] b q k = absurd (let z : ◌≡◌ {A = ℕ} 0 1 = cc in omega arith)
      none_split (x ∷ a) b q k = absurd (let z : ◌≡◌ {A = ℕ} 0 1 = cc in omega arith)

  accepted_none : (p : Pending) (ps : List Pending) (w : List ℕ) → fault_of (view p) ms ps ≡ none → view p ≡ calls w → Accepted ms w ps
  accepted_none p ps w h e = accepted_good w ps (good_of w ps (ap (λ (v : View). fault_of v ms ps) (sym e) ∙ h))

  bad_later : (p : Pending) (ps : List Pending) (n : ℕ) → fault_of (view p) ms ps ≡ none → FirstBad ps n → FirstBad (p ∷ ps) n
  bad_later p ps n h f =
      record {
        before = p ∷ f.before;
        usage = f.usage;
        name = f.name;
        after = f.after;
        text_is = ap (λ (qs : List Pending). p ∷ qs) f.text_is;
        called = f.called;
        at_fault = f.at_fault;
        good_before = go;
      }
    where
      go : (a b : List Pending) (q : Pending) (w : List ℕ) → p ∷ f.before ≡ a ++ (q ∷ b) → view q ≡ calls w → Accepted ms w (b ++ (f.usage ∷ f.after))
      go [] b q w k e =
          let x : p ≡ q = cc in
          let y : f.before ≡ b = cc in
          subst (λ (z : List Pending). Accepted ms w (z ++ (f.usage ∷ f.after))) y
          (subst (Accepted ms w) f.text_is (accepted_none p ps w h (ap view x ∙ e)))
      go (x ∷ a) b q w k e = let y : f.before ≡ a ++ (q ∷ b) = cc in f.good_before a b q w y e

  first_bad : (ps : List Pending) (n : ℕ) → text_fault ms ps ≡ some n → FirstBad ps n
  unfolding text_fault
  first_bad [] n h = absurd (let z : ◌≡◌ {A = ℕ} 0 1 = cc in omega arith)
  first_bad (p ∷ ps) n h = go (fault_of (view p) ms ps) refl h (first_bad ps n)
    where
      go : (f : Option ℕ) → fault_of (view p) ms ps ≡ f → or_next f (text_fault ms ps) ≡ some n → (text_fault ms ps ≡ some n → FirstBad ps n) → FirstBad (p ∷ ps) n
      go none e q ih = bad_later p ps n e (ih q)
      go (some m) e q ih = bad_here p ps n (e ∙ q)

  fault_bad : (before after : List Pending) (p : Pending) (w : List ℕ) (n : ℕ) → view p ≡ calls w → usage_fault ms w after ≡ some n
      → ((a b : List Pending) (q : Pending) (u : List ℕ) → before ≡ a ++ (q ∷ b) → view q ≡ calls u → Accepted ms u (b ++ (p ∷ after)))
      → text_fault ms (before ++ (p ∷ after)) ≡ some n
  unfolding text_fault
  fault_bad [] after p w n e h g =
      ap (λ (v : View). or_next (fault_of v ms after) (text_fault ms after)) e ∙ ap (λ (x : Option ℕ). or_next x (text_fault ms after)) h
  fault_bad (b ∷ before) after p w n e h g =
      ap (λ (x : Option ℕ). or_next x (text_fault ms (before ++ (p ∷ after)))) (none_at b (before ++ (p ∷ after)) (λ u k. g [] before b u refl k))
      ∙ fault_bad before after p w n e h (λ x y q u k v. g (b ∷ x) y q u (ap (λ (qs : List Pending). b ∷ qs) k) v)

  pub text_first : (ps : List Pending) (n : ℕ) → (text_fault ms ps ≡ some n) ↔ FirstBad ps n
  text_first ps n =
      (first_bad ps n, λ f. ap (text_fault ms) f.text_is ∙ fault_bad f.before f.after f.usage f.name n f.called f.at_fault f.good_before)
