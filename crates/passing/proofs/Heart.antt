-- What can stop the expansion of a usage in a file with an accepted list whose arguments hold no usage, in a set that passes, and how
-- deep it goes.
-- Assumes nothing.
use Prim.Native.Nat.{ℕ, ◌<◌, ◌≤◌}
use native.Mathlib.Omega.{arith}
use mathlib.Core.Path.{◌≡◌, refl, ap}
use mathlib.Core.Bool.{true, false, not}
use mathlib.Core.List.{List, [], ◌∷◌}
use lib.ListN.{length}
use borrow.Author.Tests.{not-true}
use Rattle.lex.specs.Tokens.{in_file, tokens}
use Rattle.lex.specs.declared.Token.{Token}
use Rattle.lex.proofs.Tests.{by_test, and_left, and_right, true_false}
use Rattle.definition.specs.Definitions.{Parameter, Macro, macro}
use Rattle.sets.specs.Sets.{elem, insert_asc}
use Rattle.store.specs.Stores.{macro_at, find}
use Rattle.std.proofs.Common.{Result, Ok, Err}
use Rattle.store.proofs.Ordering.{find_at_lt}
use Rattle.writing.specs.Written.{Room}
use Rattle.pending.specs.Pending.{Pending, file_tokens, file_from, is_call, view}
use Rattle.arguments.specs.Arguments.{Args, bad, args, seek}
use Rattle.arguments.proofs.Collecting.{part_due}
use Rattle.replace.specs.Replacing.{Got, got, refused, enough, Listed, barred, listed, accepted, list_for, with_list, replace_by, replace}
use Rattle.expand.specs.Expanding.{Outer, on_got, onward, first, expand}
use Rattle.passing.specs.Passing.{formals_of, yes, pass_of}
use Rattle.passing.specs.Chains.{chain, no_usage, no_usages, quiet, tame_by, tame, chain_by, chain_from}
use Rattle.passing.specs.Meeting.{Soft}
use Rattle.passing.proofs.Lists.{more, Collected, ended, pushed, cut, close_none}
use Rattle.passing.proofs.Reading.{read, Sought, there, here, sought_of}
use Rattle.passing.proofs.Good.{fine_nil, fine_plain}
use Rattle.passing.proofs.Placing.{All, all_nil, all_cons}
use Rattle.passing.proofs.Keeping.{Val, Sound, empty}
use Rattle.passing.proofs.Running.{Calm, Under, High, no_call, text_of, Going, going, Part, part_of, put-in, replaced_by, onward_calm}

-- ---- tokens of a file come out of no macro text

abbrev Bare : Pending → Type 0
Bare p = p.own ≡ []

bare_tokens : (s : List ℕ) (ts : List Token) → All Bare (file_tokens s ts)
unfolding file_tokens
bare_tokens s [] = all_nil
bare_tokens s (t ∷ ts) = all_cons refl (bare_tokens s ts)

bare_file : (s : List ℕ) (i : ℕ) → All Bare (file_from s i)
unfolding file_from
bare_file s i = bare_tokens s (tokens in_file s i)

module _ (ms : List Macro) (h : ℕ) where
  bare_high : (p : Pending) → Bare p → is_call (view p) ≡ false → High ms h p
  bare_high p b e = record { small = let k : length p.own ≡ 0 = ap length b in omega arith; used = λ w i q f. no_call (view p) w q e }

  -- ---- arguments without usages

  record Quiet (due : List ℕ) (a : List Pending) (xs : List (List Pending)) : Type 0 where
    argument : Val ms (High ms h) due a
    others : All (λ x. Val ms (High ms h) [] x) xs

  quiet_of : {ps : List Pending} {due : List ℕ} {a : List Pending} {xs : List (List Pending)} {r : List Pending}
      → Collected ps due a xs r → All Bare ps → no_usage a ≡ true → no_usages xs ≡ true → Quiet due a xs
  unfolding no_usage no_usages
  quiet_of (ended {p = p} {due = due} e) b n q = record { argument = empty ms (High ms h) due (close_none (view p) due e); others = all_nil }
  quiet_of (pushed {p = p} {a = a} d e c) (all_cons x b) n q =
      let i : is_call (view p) ≡ false = not-true (is_call (view p)) (and_left (not (is_call (view p))) (no_usage a) n) in
      let k = quiet_of c b (and_right (not (is_call (view p))) (no_usage a) n) q in
      record {
        argument = record {
          shuts = more d e k.argument.shuts;
          fine = fine_plain i k.argument.fine;
          each = all_cons (bare_high p x i) k.argument.each;
        };
        others = k.others;
      }
  quiet_of (cut {p = p} {due = due} {a = a} {xs = xs} e c) (all_cons x b) n q =
      let k = quiet_of c b (and_left (no_usage a) (no_usages xs) q) (and_right (no_usage a) (no_usages xs) q) in
      record { argument = empty ms (High ms h) due (part_due (view p) due e); others = all_cons k.argument k.others }

  quiet_sought : {ps : List Pending} {a : List Pending} {xs : List (List Pending)} {r : List Pending}
      → Sought ps (args a xs r) → All Bare ps → no_usages (a ∷ xs) ≡ true → All (λ x. Val ms (High ms h) [] x) (a ∷ xs)
  unfolding no_usages
  quiet_sought (there e s) (all_cons x b) q = quiet_sought s b q
  quiet_sought {a = a} {xs = xs} (here e (read c)) (all_cons x b) q =
      let k = quiet_of c b (and_left (no_usage a) (no_usages xs) q) (and_right (no_usage a) (no_usages xs) q) in
      all_cons k.argument k.others

  -- an accepted list of such arguments
  data Valued : Listed → Type 0 where
    valued : {xs : List (List Pending)} {r : List Pending} → All (λ x. Val ms (High ms h) [] x) xs → Valued (listed xs r)

  valued_sought : (fs : List Parameter) (ps : List Pending) → All Bare ps → (g : Args) → Sought ps g → quiet (accepted fs g) ≡ true
      → Valued (accepted fs g)
  valued_sought fs ps b (bad n i) s q = true_false false q refl
  valued_sought fs ps b (args a xs r) s q =
      by_test (λ (l : Listed). quiet l ≡ true → Valued l) (enough fs (length (a ∷ xs))) (λ e k. valued (quiet_sought s b k))
      (λ e k. true_false false k refl) q

  valued_for : (fs : List Parameter) (ps : List Pending) → All Bare ps → quiet (list_for fs ps) ≡ true → Valued (list_for fs ps)
  valued_for [] ps b q = valued all_nil
  valued_for (f ∷ fs) ps b q = valued_sought (f ∷ fs) ps b (seek ps) (sought_of ps) q

  -- ---- its expansion

  module _ (pass : pass_of ms ≡ yes) (sound : (i : ℕ) → Sound (formals_of (macro_at ms i))) where
    module _ (i : ℕ) (stored : i < length ms) (u : Under ms h i []) where
      list_going : (n : List ℕ) (fs : List Parameter) (t : List ℕ) → Part ms h pass sound i [] stored u (macro n fs t) → (l : Listed) → Valued l
          → Going ms h [] (with_list (insert_asc i []) fs t l)
      list_going n fs t p (listed xs r) (valued vs) =
          put-in ms h pass sound i [] stored u fs (text_of (insert_asc i []) (macro n fs t)) xs [] r p.defaults p.text vs
          (record { fine = fine_nil; each = all_nil })
      list_going n fs t p (barred _ _) h = elim h [ ]

      macro_going : (m : Macro) → Part ms h pass sound i [] stored u m → (ps : List Pending) → All Bare ps → quiet (list_for (formals_of m) ps) ≡ true
          → Going ms h [] (replace_by m (insert_asc i []) ps)
      macro_going (macro n fs t) p ps b q = list_going n fs t p (list_for fs ps) (valued_for fs ps b q)

    replace_going : (w : List ℕ) (ps : List Pending) (i : ℕ) → find w ms ≡ Ok i → Under ms h i [] → All Bare ps
        → quiet (list_for (formals_of (macro_at ms i)) ps) ≡ true → Going ms h [] (replace ms w [] ps)
    replace_going w ps i e u b q =
        let l : i < length ms = find_at_lt w ms e in
        replaced_by ms h w [] ps i (Going ms h []) e u (macro_going i l u (macro_at ms i) (part_of ms h pass sound i [] l u) ps b q)

    going_calm : (n : ℕ) (o : Outer) (r : Room) (g : Got) → Going ms h [] g → Calm h (on_got (λ q rest r'. onward n o ms q [] r') r g)
    going_calm n o r (got q rest) (going a k) = onward_calm ms h pass sound n o q [] r a k
    going_calm n o r (refused _ _) h = elim h [ ]

under_none : (ms : List Macro) (i : ℕ) → Under ms (chain ms i) i []
unfolding elem
under_none ms i = record { within = omega arith; above = λ m e. true_false false e refl }

-- only room, the pending list and the limit stop it, and no token comes out of more texts than the longest chain has macros
pub heart : (ms : List Macro) (w s : List ℕ) (i n : ℕ) (o : Outer) (r : Room) → ((j : ℕ) → Sound (formals_of (macro_at ms j))) → pass_of ms ≡ yes → tame ms w (file_from s i) ≡ true
    → Soft (expand n o ms r w s i).stop × ((expand n o ms r w s i).depth ≤ chain_from ms w)
unfolding tame chain_from expand first
heart ms w s i n o r sound pass t = go (find w ms) refl t
  where
    go : (f : Result ℕ ℕ) → find w ms ≡ f → tame_by f ms (file_from s i) ≡ true
        → Soft (expand n o ms r w s i).stop × ((expand n o ms r w s i).depth ≤ chain_by f ms)
    go (Ok j) e q =
        let c : Calm (chain ms j) (expand n o ms r w s i) =
        going_calm ms (chain ms j) pass sound n o r (replace ms w [] (file_from s i))
        (replace_going ms (chain ms j) pass sound w (file_from s i) j e (under_none ms j) (bare_file s i) q) in
        (c.stopped, c.deep)
    go (Err j) e q = true_false false q refl
