-- Nothing dropped: each file that a run reads is taken stretch by stretch, without gap or overlap, and the text is what the
-- stretches wrote.
-- Assumes nothing.
use Rattle.std.specs.Prelude.{ℕ, ◌<◌, ◌≤◌, true, false, List, [], ◌∷◌, ◌++◌, ◌≡◌, length}
use Rattle.text.specs.Bytes.{part}
use Rattle.directive.specs.declared.Value.{Value}
use Rattle.definition.specs.Definitions.{Macro}
use Rattle.writing.specs.Written.{text_of}
use Rattle.blocks.specs.Blocks.{Conditional, taken_by}
use Rattle.handover.specs.Sizes.{HandOver, Rooms}
use Rattle.turns.specs.States.{Context, Frame, State, Made, stop}
use Rattle.turns.specs.Acts.{Act, copies, skips, hides, defines, undefines, includes, keeps, spells, expands, act_at}
use Rattle.turns.specs.Usages.{expand_here}
use Rattle.turns.specs.Turns.{here_at, turn_at}
use Rattle.turns.specs.Runs.{Outcome, flattened}
use Rattle.claims.specs.Growing.{Front}
use Rattle.turns.specs.Files.{file_of, Opener}
use Rattle.claims.specs.Stretches.{OpenFile, open_file, Stretch, Leaving, Told, Stretches}

-- each open file is taken up to where it stands
unfoldable pub AllTaken : Context → State → List Frame → Type 0
AllTaken x s₀ [] = Unit {0}
AllTaken x s₀ (f ∷ fs) = Stretches x s₀ (open_file f fs) f.cursor.at × AllTaken x s₀ fs

-- the stretch that the byte p lies in
pub record Within (x : Context) (s₀ : State) (i : OpenFile) (p : ℕ) : Type 0 where
  pub from : ℕ
  pub to : ℕ
  pub state : State
  pub next : State
  pub before : List ℕ
  pub written : List ℕ
  pub told : Told x s₀ state before
  pub stretch : Stretch x i from to state next written
  pub low : from ≤ p
  pub high : p < to

-- the file i is taken to its last byte, and left
pub record Whole (x : Context) (s₀ : State) (i : OpenFile) : Type 0 where
  pub stretches : Stretches x s₀ i (length (file_of x i.entry))
  pub state : State
  pub next : State
  pub before : List ℕ
  pub written : List ℕ
  pub told : Told x s₀ state before
  pub leaving : Leaving x i state next written

-- .. each open file, in the end
unfoldable pub AllWhole : Context → State → List Frame → Type 0
AllWhole x s₀ [] = Unit {0}
AllWhole x s₀ (f ∷ fs) = Whole x s₀ (open_file f fs) × AllWhole x s₀ fs

-- what a refused turn wrote: nothing, or of a usage the tokens of its expansion before the refused one
pub data Begun (x : Context) (s : State) : List ℕ → Type 0 where
  nothing : Begun x s []
  begun : {f : Frame} {fs : List Frame} → s.frames ≡ f ∷ fs → act_at (here_at x s f fs) ≡ expands
      → Begun x s (text_of (expand_here (here_at x s f fs)).text)

-- the turn of s is refused with n at byte p of file f
pub record Refused (x : Context) (s : State) (n f p : ℕ) (w : List ℕ) : Type 0 where
  pub made : Made
  pub turn_is : turn_at x s ≡ stop n f p made
  pub made_is : text_of made.text ≡ w
  pub wrote : Begun x s w

-- how a run ends: with no file and no conditional open, or refused; its number, file, byte and text
pub data Ends (x : Context) (s₀ : State) : ℕ → ℕ → ℕ → List ℕ → Type 0 where
  at_end : {s : State} {u : List ℕ} → Told x s₀ s u → s.frames ≡ [] → s.conds ≡ [] → Ends x s₀ 0 0 0 u
  refused : {s : State} {n f p : ℕ} {u w : List ℕ} → Told x s₀ s u → Refused x s n f p w → Ends x s₀ n f p (u ++ w)

abbrev pub EndsBy : Context → State → Outcome → Type 0
EndsBy x s₀ o = Ends x s₀ o.number o.file o.byte o.text

-- the acts that write the bytes that they take, as they stand
pub data AsWritten : Act → Type 0 where
  copied : AsWritten copies
  kept : {v : Value} {e : ℕ} → AsWritten (keeps v e)

-- the acts that are carried out in taken text alone
pub data InTaken : Act → Type 0 where
  token : InTaken copies
  definition : {m : Macro} {e : ℕ} → InTaken (defines m e)
  removal : {ms : List Macro} {e : ℕ} → InTaken (undefines ms e)
  inclusion : {i e : ℕ} → InTaken (includes i e)
  directive : {v : Value} {e : ℕ} → InTaken (keeps v e)
  word : {w : List ℕ} → InTaken (spells w)
  usage : InTaken expands

-- the acts that pass over text
pub data PassedOver : Act → Type 0 where
  skipped : PassedOver skips
  hidden : {e : ℕ} → PassedOver (hides e)

-- text is ignored in the state s: its innermost open conditional is not taken
pub record Ignoring (x : Context) (s : State) : Type 0 where
  pub conditional : Conditional
  pub others : List Conditional
  pub conds_are : s.conds ≡ conditional ∷ others
  pub not_taken : conditional.active ≡ false
  pub opener : Opener x conditional

-- the claim, of a hand-over in these rooms that is taken, refused later or not
pub record NothingDropped (h : HandOver) (r : Rooms) (x : Context) (s₀ : State) : Type 0 where
  -- in every state of the run each open file is taken from its first byte to where it stands, and each byte before lies in a stretch
  pub taken : (s : State) (u : List ℕ) → Told x s₀ s u → AllTaken x s₀ s.frames
  pub each_byte : (i : OpenFile) (e p : ℕ) → Stretches x s₀ i e → p < e → Within x s₀ i p
  -- the text is what the turns wrote, joined in order; what was written up to a state stands at its front
  pub joined : EndsBy x s₀ (flattened h r)
  pub front : (s : State) (u : List ℕ) → Told x s₀ s u → Front u (flattened h r).text
  -- if it is not refused, each file that was read was taken to its last byte, and left there
  pub whole : (flattened h r).number ≡ 0 → (s : State) (u : List ℕ) → Told x s₀ s u → AllWhole x s₀ s.frames
  -- copied tokens and kept directives are written as they stand
  pub as_written : (i : OpenFile) (a b : ℕ) (s s' : State) (w : List ℕ) (k : Stretch x i a b s s' w) → AsWritten k.acted.act
      → w ≡ part (file_of x i.entry) a b
  -- tokens are copied, definitions, `undef`, includes, kept directives and `__` words carried out and usages expanded in taken text alone
  pub in_taken : (i : OpenFile) (a b : ℕ) (s s' : State) (w : List ℕ) (k : Stretch x i a b s s' w) → InTaken k.acted.act
      → taken_by s.conds ≡ true
  -- text is passed over only under a conditional that is not taken, whose opener stands at its place
  pub in_ignored : (i : OpenFile) (a b : ℕ) (s s' : State) (u w : List ℕ) → Told x s₀ s u → (k : Stretch x i a b s s' w)
      → PassedOver k.acted.act → Ignoring x s
