-- Nothing is dropped by a hand-over that is taken.
-- Assumes nothing.
use Prim.Native.Nat.{ℕ}
use mathlib.Core.Bool.{true, false}
use mathlib.Core.List.{List, [], ◌∷◌}
use mathlib.Core.Path.{◌≡◌, refl, sym, ap, subst, ◌∙◌}
use native.Mathlib.Omega.{arith}
use Rattle.text.specs.Bytes.{part}
use Rattle.lex.specs.Tokens.{in_file}
use Rattle.lex.proofs.Tests.{true_false}
use Rattle.lex.proofs.Progress.{token-at}
use Rattle.writing.specs.Written.{text_of}
use Rattle.blocks.specs.Blocks.{Conditional, taken_by}
use Rattle.handover.specs.Sizes.{HandOver, Rooms, is_sound}
use Rattle.handover.proofs.Laws.{sound_facts}
use Rattle.turns.specs.States.{Context, Frame, State, Here}
use Rattle.turns.specs.Acts.{Act}
use Rattle.turns.specs.Asking.{Taken, Ignored, Asks, to_refuse, to_leave, to_copy, to_skip, to_hide, to_branch, to_define, to_undefine, to_include, to_keep, to_spell, to_expand}
use Rattle.turns.specs.Turns.{here_at}
use Rattle.turns.specs.Runs.{Run, measure, run_from, context_of, start_of, Outcome, flattened}
use Rattle.passing.proofs.Whole as run
use Rattle.claims.specs.Growing.{Front}
use Rattle.turns.specs.Files.{file_of}
use Rattle.claims.specs.Stretches.{taken_to, written_by, OpenFile, Stretch, Told, start, none}
use Rattle.claims.specs.NothingDropped.{AllTaken, AllWhole, EndsBy, AsWritten, copied, kept, InTaken, token, definition, removal, inclusion, directive, word, usage, PassedOver, skipped, hidden, Ignoring, NothingDropped}
use Rattle.turns.proofs.Taken.{taken}
use Rattle.turns.proofs.RefusedTurns.{CondsIn, conds_are}
use Rattle.turns.proofs.Refused.{stop_in}
use Rattle.claims.proofs.Telling.{told_through, all_taken, byte_within, ends_by, rest_of, all_whole}

-- ---- acts

asks_taken : {h : Here} {a : Act} → Asks h a → InTaken a → Taken h
asks_taken (to_refuse _) h = elim h [ ]
asks_taken (to_leave _ _) h = elim h [ ]
asks_taken (to_copy r t g) token = t
asks_taken (to_skip _ _) h = elim h [ ]
asks_taken (to_hide _ _ _ _) h = elim h [ ]
asks_taken (to_branch _ _ _) h = elim h [ ]
asks_taken (to_define a t q i) definition = t
asks_taken (to_undefine r t l i) removal = t
asks_taken (to_include a t n i) inclusion = t
asks_taken (to_keep d a t k q i) directive = t
asks_taken (to_spell r t k) word = t
asks_taken (to_expand a t) usage = t

asks_ignored : {h : Here} {a : Act} → Asks h a → PassedOver a → Ignored h
asks_ignored (to_refuse _) h = elim h [ ]
asks_ignored (to_leave _ _) h = elim h [ ]
asks_ignored (to_copy _ _ _) h = elim h [ ]
asks_ignored (to_skip r t) skipped = t
asks_ignored (to_hide a t d i) hidden = t
asks_ignored (to_branch _ _ _) h = elim h [ ]
asks_ignored (to_define _ _ _ _) h = elim h [ ]
asks_ignored (to_undefine _ _ _ _) h = elim h [ ]
asks_ignored (to_include _ _ _ _) h = elim h [ ]
asks_ignored (to_keep d _ _ _ _ _) h = elim h [ ]
asks_ignored (to_spell _ _ _) h = elim h [ ]
asks_ignored (to_expand _ _) h = elim h [ ]

-- what is written is what is taken, from where the token stands
written_taken : (x : Context) (s : State) (f : Frame) (fs : List Frame) {a : Act} → AsWritten a
    → let h = here_at x s f fs in written_by h a ≡ part (file_of x f.file) f.cursor.at (taken_to h a)
written_taken x s f fs copied = refl
written_taken x s f fs (kept {e = e}) =
    ap (λ (p : ℕ). part (file_of x f.file) p e) (token-at in_file (file_of x f.file) f.cursor.at)

stretch_written : (x : Context) (i : OpenFile) (a b : ℕ) (s s' : State) (w : List ℕ) (k : Stretch x i a b s s' w) → AsWritten k.acted.act
    → w ≡ part (file_of x i.entry) a b
stretch_written x i a b s s' w k c =
    let f = k.acted.frame in
    sym k.acted.written ∙ written_taken x s f i.around c ∙ ap (part (file_of x f.file) f.cursor.at) k.to
    ∙ ap (λ (n : ℕ). part (file_of x f.file) n b) k.from ∙ ap (λ (j : ℕ). part (file_of x j) a b) k.acted.file_is

-- ---- conditionals

ignoring : (x : Context) (s : State) → CondsIn x s.conds → taken_by s.conds ≡ false → Ignoring x s
unfolding CondsIn
ignoring x s h t = go s.conds refl h t
  where
    go : (cs : List Conditional) → s.conds ≡ cs → CondsIn x cs → taken_by cs ≡ false → Ignoring x s
    go [] q h t = true_false true refl t
    go (c ∷ cs) q h t = record { conditional = c; others = cs; conds_are = q; not_taken = t; opener = h.0 }

-- ---- hand-overs

module _ (h : HandOver) (r : Rooms) (e : is_sound h r ≡ true) where
  abbrev x : Context
  x = context_of h r

  abbrev s₀ : State
  s₀ = start_of h r

  first : AllTaken x s₀ s₀.frames
  unfolding AllTaken
  first = (none, tt)

  pub joined : EndsBy x s₀ (flattened h r)
  unfolding run_from
  joined =
      subst (EndsBy x s₀) (sym (taken h r e))
      (ends_by x s₀ first (sound_facts h r e).entries (measure x s₀.frames) s₀ [] (omega arith) start)

  front : (s : State) (u : List ℕ) → Told x s₀ s u → Front u (flattened h r).text
  front s u t =
      record {
        rest = text_of (run_from x s).text;
        front_is = ap (λ (o : Outcome). o.text) (taken h r e) ∙ rest_of x s₀ first (sound_facts h r e).entries t;
      }

  whole : (flattened h r).number ≡ 0 → (s : State) (u : List ℕ) → Told x s₀ s u → AllWhole x s₀ s.frames
  unfolding run_from
  whole z s u t =
      let p = run.part x s₀ s (sound_facts h r e).entries (told_through x s₀ t) in
      let q : (run_from x s).number ≡ 0 =
      sym (ap (λ (y : Run). y.number) p.whole) ∙ sym (ap (λ (o : Outcome). o.number) (taken h r e)) ∙ z in
      all_whole x s₀ first (sound_facts h r e).entries (λ s u t n f p m q. omega (arith, (stop_in h r e s (told_through x s₀ t) n f p m q).low)) (measure x s.frames) s u (omega arith) t q

  pub nothing_dropped : NothingDropped h r x s₀
  nothing_dropped =
      record {
        taken = λ s u t. all_taken x s₀ first t;
        each_byte = λ i e p k l. byte_within x s₀ p k l;
        joined = joined;
        front = front;
        whole = whole;
        as_written = stretch_written x;
        in_taken = λ i a b s s' w k c. asks_taken k.acted.why c;
        in_ignored = λ i a b s s' u w t k c. ignoring x s (conds_are h r e s (told_through x s₀ t)) (asks_ignored k.acted.why c);
      }
