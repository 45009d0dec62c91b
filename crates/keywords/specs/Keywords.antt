-- The reserved words (000, with IEEE's spelling), each with the first version that has it: 0 for 1364-1995, 1 for
-- 1364-2001, 2 for 1364-2005, 3 for 1800-2005.
-- Assumes nothing.
use Rattle.std.specs.Prelude.{Bool, false, cond, List, [], ◌∷◌, ℕ, leb, get_or}
use Prim.Native.String.{String}
use Rattle.text.specs.Bytes.{bytes, same}

pub data Keyword : Type 0 where
  kw : String → ℕ → Keyword

abbrev pub word : Keyword → List ℕ
word (kw s v) = bytes s

abbrev pub first : Keyword → ℕ
first (kw s v) = v

unfoldable pub keywords : List Keyword
keywords =
    kw "alias" 3 ∷ kw "always" 0 ∷ kw "always_comb" 3 ∷ kw "always_ff" 3 ∷ kw "always_latch" 3 ∷ kw "and" 0 ∷
    kw "assert" 3 ∷ kw "assign" 0 ∷ kw "assume" 3 ∷ kw "automatic" 1 ∷ kw "before" 3 ∷ kw "begin" 0 ∷ kw "bind" 3 ∷
    kw "bins" 3 ∷ kw "binsof" 3 ∷ kw "bit" 3 ∷ kw "break" 3 ∷ kw "buf" 0 ∷ kw "bufif0" 0 ∷ kw "bufif1" 0 ∷
    kw "byte" 3 ∷ kw "case" 0 ∷ kw "casex" 0 ∷ kw "casez" 0 ∷ kw "cell" 1 ∷ kw "chandle" 3 ∷ kw "class" 3 ∷
    kw "clocking" 3 ∷ kw "cmos" 0 ∷ kw "config" 1 ∷ kw "const" 3 ∷ kw "constraint" 3 ∷ kw "context" 3 ∷
    kw "continue" 3 ∷ kw "cover" 3 ∷ kw "covergroup" 3 ∷ kw "coverpoint" 3 ∷ kw "cross" 3 ∷ kw "deassign" 0 ∷
    kw "default" 0 ∷ kw "defparam" 0 ∷ kw "design" 1 ∷ kw "disable" 0 ∷ kw "dist" 3 ∷ kw "do" 3 ∷ kw "edge" 0 ∷
    kw "else" 0 ∷ kw "end" 0 ∷ kw "endcase" 0 ∷ kw "endclass" 3 ∷ kw "endclocking" 3 ∷ kw "endconfig" 1 ∷
    kw "endfunction" 0 ∷ kw "endgenerate" 1 ∷ kw "endgroup" 3 ∷ kw "endinterface" 3 ∷ kw "endmodule" 0 ∷
    kw "endpackage" 3 ∷ kw "endprimitive" 0 ∷ kw "endprogram" 3 ∷ kw "endproperty" 3 ∷ kw "endsequence" 3 ∷
    kw "endspecify" 0 ∷ kw "endtable" 0 ∷ kw "endtask" 0 ∷ kw "enum" 3 ∷ kw "event" 0 ∷ kw "expect" 3 ∷
    kw "export" 3 ∷ kw "extends" 3 ∷ kw "extern" 3 ∷ kw "final" 3 ∷ kw "first_match" 3 ∷ kw "for" 0 ∷ kw "force" 0 ∷
    kw "foreach" 3 ∷ kw "forever" 0 ∷ kw "fork" 0 ∷ kw "forkjoin" 3 ∷ kw "function" 0 ∷ kw "generate" 1 ∷
    kw "genvar" 1 ∷ kw "highz0" 0 ∷ kw "highz1" 0 ∷ kw "if" 0 ∷ kw "iff" 3 ∷ kw "ifnone" 0 ∷ kw "ignore_bins" 3 ∷
    kw "illegal_bins" 3 ∷ kw "import" 3 ∷ kw "incdir" 1 ∷ kw "include" 1 ∷ kw "initial" 0 ∷ kw "inout" 0 ∷
    kw "input" 0 ∷ kw "inside" 3 ∷ kw "instance" 1 ∷ kw "int" 3 ∷ kw "integer" 0 ∷ kw "interface" 3 ∷
    kw "intersect" 3 ∷ kw "join" 0 ∷ kw "join_any" 3 ∷ kw "join_none" 3 ∷ kw "large" 0 ∷ kw "liblist" 1 ∷
    kw "library" 1 ∷ kw "local" 3 ∷ kw "localparam" 1 ∷ kw "logic" 3 ∷ kw "longint" 3 ∷ kw "macromodule" 0 ∷
    kw "matches" 3 ∷ kw "medium" 0 ∷ kw "modport" 3 ∷ kw "module" 0 ∷ kw "nand" 0 ∷ kw "negedge" 0 ∷ kw "new" 3 ∷
    kw "nmos" 0 ∷ kw "nor" 0 ∷ kw "noshowcancelled" 1 ∷ kw "not" 0 ∷ kw "notif0" 0 ∷ kw "notif1" 0 ∷ kw "null" 3 ∷
    kw "or" 0 ∷ kw "output" 0 ∷ kw "package" 3 ∷ kw "packed" 3 ∷ kw "parameter" 0 ∷ kw "pmos" 0 ∷ kw "posedge" 0 ∷
    kw "primitive" 0 ∷ kw "priority" 3 ∷ kw "program" 3 ∷ kw "property" 3 ∷ kw "protected" 3 ∷ kw "pull0" 0 ∷
    kw "pull1" 0 ∷ kw "pulldown" 0 ∷ kw "pullup" 0 ∷ kw "pulsestyle_ondetect" 1 ∷ kw "pulsestyle_onevent" 1 ∷
    kw "pure" 3 ∷ kw "rand" 3 ∷ kw "randc" 3 ∷ kw "randcase" 3 ∷ kw "randsequence" 3 ∷ kw "rcmos" 0 ∷ kw "real" 0 ∷
    kw "realtime" 0 ∷ kw "ref" 3 ∷ kw "reg" 0 ∷ kw "release" 0 ∷ kw "repeat" 0 ∷ kw "return" 3 ∷ kw "rnmos" 0 ∷
    kw "rpmos" 0 ∷ kw "rtran" 0 ∷ kw "rtranif0" 0 ∷ kw "rtranif1" 0 ∷ kw "scalared" 0 ∷ kw "sequence" 3 ∷
    kw "shortint" 3 ∷ kw "shortreal" 3 ∷ kw "showcancelled" 1 ∷ kw "signed" 1 ∷ kw "small" 0 ∷ kw "solve" 3 ∷
    kw "specify" 0 ∷ kw "specparam" 0 ∷ kw "static" 3 ∷ kw "string" 3 ∷ kw "strong0" 0 ∷ kw "strong1" 0 ∷
    kw "struct" 3 ∷ kw "super" 3 ∷ kw "supply0" 0 ∷ kw "supply1" 0 ∷ kw "table" 0 ∷ kw "tagged" 3 ∷ kw "task" 0 ∷
    kw "this" 3 ∷ kw "throughout" 3 ∷ kw "time" 0 ∷ kw "timeprecision" 3 ∷ kw "timeunit" 3 ∷ kw "tran" 0 ∷
    kw "tranif0" 0 ∷ kw "tranif1" 0 ∷ kw "tri" 0 ∷ kw "tri0" 0 ∷ kw "tri1" 0 ∷ kw "triand" 0 ∷ kw "trior" 0 ∷
    kw "trireg" 0 ∷ kw "type" 3 ∷ kw "typedef" 3 ∷ kw "union" 3 ∷ kw "unique" 3 ∷ kw "unsigned" 1 ∷ kw "use" 1 ∷
    kw "uwire" 2 ∷ kw "var" 3 ∷ kw "vectored" 0 ∷ kw "virtual" 3 ∷ kw "void" 3 ∷ kw "wait" 0 ∷ kw "wait_order" 3 ∷
    kw "wand" 0 ∷ kw "weak0" 0 ∷ kw "weak1" 0 ∷ kw "while" 0 ∷ kw "wildcard" 3 ∷ kw "wire" 0 ∷ kw "with" 3 ∷
    kw "within" 3 ∷ kw "wor" 0 ∷ kw "xnor" 0 ∷ kw "xor" 0 ∷ []

-- word k of the table
unfoldable pub word_at : ℕ → List ℕ
word_at k = word (get_or keywords k (kw "" 0))

-- "reserved or not" in version v, by a list of words
unfoldable pub reserved_in : List Keyword → List ℕ → ℕ → Bool
reserved_in [] w v = false
reserved_in (k ∷ ks) w v =
    let r = reserved_in ks w v in
    cond (same w (word k)) (leb (first k) v) r

unfoldable pub is_reserved : List ℕ → ℕ → Bool
is_reserved w v = reserved_in keywords w v
