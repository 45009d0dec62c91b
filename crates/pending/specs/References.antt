-- Pending tokens as references into the file and the macro bytes: nine numbers each.
-- Assumes nothing.
use Rattle.std.specs.Prelude.{ℕ, zero, suc, Bool, false, cond, ◌&&◌, ◌||◌, List, [], ◌∷◌, eqb, leb, get_or}
use Rattle.text.specs.Bytes.{part}
use Rattle.lex.specs.Tokens.{White, String}
use Rattle.storing.specs.Stored.{joined_from}
use Rattle.sets.specs.Sets.{members}
use Rattle.pending.specs.declared.Pend.{Pend}
use Rattle.pending.specs.Pending.{Pending, is_comment}

-- where the bytes stand: in the file s, in the macro bytes b, or they are one space; of a string in an argument the bytes
-- joined, without each `\`newline
abbrev pub File : ℕ
File = 0

abbrev pub Store : ℕ
Store = 1

abbrev pub Space : ℕ
Space = 2

abbrev pub JoinedFile : ℕ
JoinedFile = 3

abbrev pub JoinedStore : ℕ
JoinedStore = 4

-- the part from i to before e of what the source k names
unfoldable pub part_in : List ℕ → List ℕ → ℕ → ℕ → ℕ → List ℕ
part_in s b k i e =
    cond (eqb k File || eqb k JoinedFile) (part s i e) (cond (eqb k Store || eqb k JoinedStore) (part b i e) [])

-- a token's bytes as they stand
unfoldable pub raw_of : List ℕ → List ℕ → Pend → List ℕ
raw_of s b p = cond (eqb p.source Space) (32 ∷ []) (part_in s b p.source p.start p.end)

abbrev pub is_joined : Pend → Bool
is_joined p = eqb p.kind String && leb JoinedFile p.source

-- the token that a reference stands for
unfoldable pub pending_by : List ℕ → List ℕ → Pend → Pending
pending_by s b p =
    record {
      kind = p.kind;
      bytes = cond (is_joined p) (joined_from false (raw_of s b p)) (raw_of s b p);
      name = part_in s b p.source p.from p.end;
      own = members p.set;
      at = 0;
      bar = 0;
    }

abbrev pub joined_source : ℕ → ℕ
joined_source k = cond (eqb k File) JoinedFile (cond (eqb k Store) JoinedStore k)

-- an argument's token: a comment is one space, a string is joined
abbrev pub cleaned_ref : Pend → Pend
cleaned_ref p =
    cond (is_comment p.kind) (record { kind = White; source = Space; start = 0; from = 0; end = 0; set = p.set })
    (cond (eqb p.kind String) (record { kind = p.kind; source = joined_source p.source; start = p.start; from = p.from; end = p.end; set = p.set })
    p)

-- its nine numbers
abbrev pub numbers_of : Pend → List ℕ
numbers_of p =
    p.kind ∷ p.source ∷ p.start ∷ p.from ∷ p.end ∷ p.set.w0 ∷ p.set.w1 ∷ p.set.w2 ∷ p.set.w3 ∷ []

abbrev pub pend_of : List ℕ → Pend
pend_of v =
    record {
      kind = get_or v 0 0;
      source = get_or v 1 0;
      start = get_or v 2 0;
      from = get_or v 3 0;
      end = get_or v 4 0;
      set = record { w0 = get_or v 5 0; w1 = get_or v 6 0; w2 = get_or v 7 0; w3 = get_or v 8 0 };
    }

abbrev pub blank : List ℕ
blank = 0 ∷ 0 ∷ 0 ∷ 0 ∷ 0 ∷ 0 ∷ 0 ∷ 0 ∷ 0 ∷ []

-- the tokens of a list of references, first to last
unfoldable pub pendings : List ℕ → List ℕ → List (List ℕ) → List Pending
pendings s b [] = []
pendings s b (v ∷ vs) = pending_by s b (pend_of v) ∷ pendings s b vs

-- the pending list: the first n references of l, of which the last is the first token
unfoldable pub stacked : List ℕ → List ℕ → List (List ℕ) → ℕ → List Pending
stacked s b l zero = []
stacked s b l (suc n) = pending_by s b (pend_of (get_or l n blank)) ∷ stacked s b l n
