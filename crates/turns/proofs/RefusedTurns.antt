-- A turn is refused by 2 to 20 only, at a place in a file; each open conditional has its opener.
-- Assumes nothing.
use Prim.Native.Nat.{ℕ, ◌<◌, ◌≤◌}
use mathlib.Core.Bool.{Bool, true, false, ◌||◌}
use mathlib.Core.List.{List, [], ◌∷◌}
use mathlib.Core.Option.{Option, none, some}
use mathlib.Core.Path.{◌≡◌, subst}
use native.Mathlib.Omega.{arith}
use lib.Dec.{eqb, leb, ltb}
use lib.ListN.{length}
use Rattle.lex.specs.Tokens.{in_file, name_of, token_at}
use Rattle.lex.specs.declared.Token.{Token}
use Rattle.lex.proofs.Tests.{by_test}
use Rattle.lex.proofs.Progress.{token-at}
use Rattle.lex.proofs.Barring.{token_bars}
use Rattle.names.specs.Names.{Ifdef, Ifndef}
use Rattle.directive.specs.Include.{include_at}
use Rattle.store.specs.Stores.{define, fits}
use Rattle.conditions.specs.Grammar.{is_defined}
use Rattle.conditions.proofs.Parts.{condition_refused}
use Rattle.settings.specs.declared.Settings.{Settings}
use Rattle.writing.specs.Written.{Written, full}
use Rattle.blocks.specs.Blocks.{Conditional, open_block, next_block, close_block}
use Rattle.expand.specs.Expanding.{Expansion}
use Rattle.handover.specs.Entries.{body_of}
use Rattle.handover.specs.Sizes.{HandOver, Rooms, is_sound}
use Rattle.turns.specs.States.{Context, Frame, State, nothing, Turn, more, stop, finished, Here, refuse, refuse_at, write}
use Rattle.turns.specs.Acts.{Act}
use Rattle.turns.specs.Usages.{outer_of, usage_place, expand_here, usage_turn}
use Rattle.turns.specs.Performing.{perform}
use Rattle.turns.specs.Turns.{here_at, turn_at}
use Rattle.turns.specs.Through.{Through, start, next}
use Rattle.turns.specs.Runs.{context_of, start_of}
use Rattle.turns.proofs.Lines.{Reads, Framed, through_framed, start_framed}
use Rattle.turns.specs.Asking.{Named, Refusal, of_token, of_form, of_condition, of_definition, of_line, of_rule, Opens, by_ifdef, by_ifndef, by_elsif, by_else, by_endif, Asks, to_refuse, to_leave, to_copy, to_skip, to_hide, to_branch, to_define, to_undefine, to_include, to_keep, to_spell, to_expand}
use Rattle.turns.proofs.Turning.{by_turn, by_write}
use Rattle.turns.proofs.Asking.{act_asks}
use Rattle.turns.specs.Files.{Accented, Opener}
use Rattle.turns.proofs.Files.{accented_at}
use Rattle.turns.proofs.Forms.{BarredIn, fault_barred, include_fault, form_bars}
use Rattle.turns.proofs.Inside.{token_inside}
use Rattle.turns.proofs.Definitions.{definition_bars}
use Rattle.turns.proofs.RefusedUsages.{ExpansionIn, PutBars, put_bars, expand_in}

-- a byte of a file that there is, or the file's end
pub record SpotIn (x : Context) (f p : ℕ) : Type 0 where
  pub file_in : f < length x.table
  pub inside : p ≤ length (body_of x.store x.table f)

-- one of 2 to 20, at such a place
pub record StopIn (x : Context) (n f p : ℕ) : Type 0 where
  pub low : 2 ≤ n
  pub high : n ≤ 20
  pub spot : SpotIn x f p

-- each open conditional has its opener at its place
unfoldable pub CondsIn : Context → List Conditional → Type 0
CondsIn x [] = Unit {0}
CondsIn x (c ∷ cs) = Opener x c × CondsIn x cs

OpenIn : Context → Option (List Conditional) → Type 0
OpenIn x none = Unit {0}
OpenIn x (some cs) = CondsIn x cs

-- a turn that leaves them so, or is refused at such a place
unfoldable pub TurnIn : Context → Turn → Type 0
TurnIn x (more s m) = CondsIn x s.conds
TurnIn x (stop n f p m) = StopIn x n f p
TurnIn x finished = Unit {0}

module _ (x : Context) where
  open_in : (f p : ℕ) (b : Bool) (cs : List Conditional) (d : ℕ) → Accented x f p d → (eqb d Ifdef || eqb d Ifndef) ≡ true → CondsIn x cs
      → OpenIn x (open_block f p b cs)
  unfolding CondsIn OpenIn open_block
  open_in f p b cs d a o g =
      by_test (OpenIn x) (leb 32 (length cs)) (λ e. tt) (λ e. (record { directive = d; accented = a; opens = o }, g))

  next_in : (b l : Bool) (cs : List Conditional) → CondsIn x cs → OpenIn x (next_block b l cs)
  unfolding CondsIn OpenIn next_block
  next_in b l [] h = tt
  next_in b l (c ∷ cs) h =
      by_test (OpenIn x) c.last (λ e. tt)
      (λ e. (record { directive = h.0.directive; accented = h.0.accented; opens = h.0.opens }, h.1))

  close_in : (cs : List Conditional) → CondsIn x cs → OpenIn x (close_block cs)
  unfolding CondsIn OpenIn close_block
  close_in [] h = tt
  close_in (c ∷ cs) h = h.1

module _ (x : Context) (s : State) (f : Frame) (fs : List Frame) (r : Reads x f) (cs : CondsIn x s.conds) where
  abbrev here : Here
  here = here_at x s f fs

  abbrev body : List ℕ
  body = body_of x.store x.table f.file

  abbrev token : Token
  token = token_at in_file body f.cursor.at

  abbrev Good : Turn → Type 0
  Good t = TurnIn x t

  -- ---- refusals

  refuse-at : (n p : ℕ) → 2 ≤ n → n ≤ 20 → p ≤ length body → Good (refuse_at here n p)
  unfolding TurnIn
  refuse-at n p a b h = record { low = a; high = b; spot = record { file_in = r.file_in; inside = h } }

  token_in : token.at ≤ length body
  token_in = omega (arith, token-at in_file body f.cursor.at, r.inside)

  refuse_here : (n : ℕ) → 2 ≤ n → n ≤ 20 → Good (refuse here n)
  refuse_here n a b = refuse-at n token.at a b token_in

  refuse_barred : (n p : ℕ) → BarredIn body n p → Good (refuse_at here n p)
  refuse_barred n p h = refuse-at n p h.low (omega (arith, h.high)) h.place_in

  refusal_good : (n p : ℕ) → Refusal here n p → Good (refuse_at here n p)
  refusal_good n p (of_token e) =
      let b = token_bars body f.cursor.at in_file in refuse_here token.bar (b.least e) (omega (arith, b.most))
  refusal_good n p (of_form d q) = refuse_barred n p (form_bars body d token.end n p q)
  refusal_good n p (of_condition q) =
      let h = condition_refused body (is_defined s.macros) token token_in (token_inside in_file body f.cursor.at r.inside).within n p q in
      refuse-at n p h.low (omega (arith, h.high)) h.place_in
  refusal_good n p (of_definition q) = refuse_barred n p (definition_bars body token.end n p q)
  refusal_good n p (of_line e) =
      let l = include_at body token.end in
      refuse_barred l.bars.number l.bars.place (fault_barred body l.bars (include_fault body token.end) e)
  refusal_good n p (of_rule a b) = refuse_here n (omega (arith, a)) (omega (arith, b))

  -- ---- the acts

  write_good : (ws : List Written) (gs : List Frame) (c : Settings) → Good (write here ws gs c)
  unfolding TurnIn PutBars
  write_good ws gs c =
      by_write here Good ws gs c (λ n e. let b : PutBars (full n) = subst PutBars e (put_bars s.room ws) in refuse_here n b.0 b.1)
      (λ m e. cs)

  opens_in : (d e : ℕ) (o : Option (List Conditional)) → Named here d → Opens here d e o → OpenIn x o
  opens_in d e o a (by_ifdef q i) = open_in x f.file token.at _ s.conds d (accented_at x s f fs r a) (rw q) cs
  opens_in d e o a (by_ifndef q i) = open_in x f.file token.at _ s.conds d (accented_at x s f fs r a) (rw q) cs
  opens_in d e o a (by_elsif q i) = next_in x _ false s.conds cs
  opens_in d e o a (by_else q) = next_in x true true s.conds cs
  opens_in d e o a (by_endif q) = close_in x s.conds cs

  -- "2 to 6 go with their token, 13 to 20 with the usage"
  place_good : (e : Expansion) → ExpansionIn body e → usage_place here e ≤ length body
  place_good e h = by_test (λ (p : ℕ). p ≤ length body) (ltb e.stop 7) (λ q. h.place_in) (λ q. token_in)

  usage_good : Good (usage_turn here)
  unfolding TurnIn
  usage_good =
      let h : ExpansionIn body (expand_here here) = expand_in body s.left (outer_of here) s.macros s.room (name_of body token) token.end in
      by_test Good (eqb (expand_here here).stop 0) (λ q. cs)
      (λ q. record {
        low = h.number_in.least q;
        high = h.number_in.most;
        spot = record { file_in = r.file_in; inside = place_good (expand_here here) h };
      })

  act_good : {a : Act} → Asks here a → Good (perform here a)
  unfolding TurnIn OpenIn
  act_good (to_refuse {n} {p} w) = refusal_good n p w
  act_good (to_leave b e) = by_test Good f.cursor.comment (λ q. write_good _ _ _) (λ q. cs)
  act_good (to_copy w t g) = write_good _ _ _
  act_good (to_skip w t) = cs
  act_good (to_hide a t d i) = cs
  act_good (to_branch {d = d} {e = e} {cs = ks} a o i) = opens_in d e (some ks) a o
  act_good (to_define {m} {e} a t q i) =
      by_test Good (fits x.records x.bytes (define m s.macros)) (λ q. cs) (λ q. refuse_here 12 (omega arith) (omega arith))
  act_good (to_undefine w t l i) = cs
  act_good (to_include a t n i) = cs
  act_good (to_keep d a t k q i) = write_good _ _ _
  act_good (to_spell w t k) = write_good _ _ _
  act_good (to_expand a t) = usage_good

module _ (x : Context) where
  unclosed_good : (c : Conditional) (cs : List Conditional) → CondsIn x (c ∷ cs) → TurnIn x (stop 8 c.file c.byte nothing)
  unfolding CondsIn TurnIn
  unclosed_good c cs h =
      let a = h.0.accented.read in
      record { low = omega arith; high = omega arith; spot = record { file_in = a.file_in; inside = omega (arith, a.inside) } }

  pub turn_good : (s : State) → Framed x s.frames → CondsIn x s.conds → TurnIn x (turn_at x s)
  unfolding Framed TurnIn
  turn_good s h g =
      by_turn x s (TurnIn x) (λ q k. tt) (λ c cs k. unclosed_good c cs (subst (CondsIn x) k g))
      (λ f fs q. let e : Framed x (f ∷ fs) = subst (Framed x) q h in act_good x s f fs e.0 g (act_asks x s f fs))

  -- ---- the run

  conds_through : (s s' : State) → Framed x s.frames → CondsIn x s.conds → Through x s s' → CondsIn x s'.conds
  unfolding TurnIn
  conds_through s s' h g start = g
  conds_through s s' h g (next {s₁ = s₁} {m = m} t e) =
      subst (TurnIn x) e (turn_good s₁ (through_framed x s s₁ h t) (conds_through s s₁ h g t))

-- in every state of the run
pub conds_are : (h : HandOver) (r : Rooms) → is_sound h r ≡ true → (s : State) → Through (context_of h r) (start_of h r) s → CondsIn (context_of h r) s.conds
unfolding CondsIn
conds_are h r e s t = conds_through (context_of h r) (start_of h r) s (start_framed h r e) tt t
