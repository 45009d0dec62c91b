-- What stands in the byte store, by the tables.
-- Assumes nothing.
use Rattle.std.specs.Prelude.{ℕ, ◌+◌, ◌-◌, Bool, cond, min, Option, Some, None, List, [], ◌∷◌, slice_index}
use Rattle.text.specs.Bytes.{part}
use Rattle.plan.specs.declared.source_files.SourceFile.{SourceFile}

-- the path of a file
abbrev pub path_in : List ℕ → Option SourceFile → List ℕ
path_in store None = []
path_in store (Some file) = part store file.path_start file.path_end

-- the bytes whose first is the number at i of an entry, and whose count the number behind it
abbrev pub range_in : List ℕ → ℕ → Option (List ℕ) → List ℕ
range_in store i None = []
range_in store i (Some entry) = part store (slice_index entry i) (slice_index entry i + slice_index entry (i + 1))

-- a number as a table has it
abbrev pub number : ℕ → ℕ
number n = min n 4294967295

-- the entry of a file whose path stands from at to before end, and its bytes behind, up to before stored; its name is the path
-- but for its first cut bytes
abbrev pub entry_for : Bool → ℕ → ℕ → ℕ → ℕ → List ℕ
entry_for angled at end cut stored =
    let name = end - at - cut in
    cond angled 1 0 ∷ number (end - name) ∷ number name ∷ number end ∷ number (stored - end) ∷ []
