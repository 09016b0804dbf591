-- The line that is printed of why a run ends.
use Rattle.std.specs.Prelude.{ℕ, List, [], ◌++◌, codes}
use Rattle.std.specs.Fmt.{decimal}
use Rattle.disk_model.specs.declared.disk.Side.{Side}
use Rattle.disk_model.specs.declared.disk.Side.TheVariants.{Left, Right}
use Rattle.sql_tokens.specs.declared.error.SqlRefusal.{SqlRefusal}
use Rattle.sql_tokens.specs.declared.error.SqlRefusal.TheVariants as reading
use Rattle.plan_check.specs.declared.refusal.CheckRefusal.{CheckRefusal}
use Rattle.plan_check.specs.declared.refusal.CheckRefusal.TheVariants as check
use Rattle.pair_store.specs.declared.refusal.StoreRefusal.{StoreRefusal}
use Rattle.pair_store.specs.declared.refusal.StoreRefusal.TheVariants as store
use Rattle.pair_store.specs.declared.ends.CommitEnd.{CommitEnd}
use Rattle.pair_store.specs.declared.ends.CommitEnd.TheVariants as commit
use Rattle.update_plan.specs.declared.ends.PlanEnd.{PlanEnd}
use Rattle.update_plan.specs.declared.ends.PlanEnd.TheVariants as planning
use Rattle.report_text.specs.Words.{print_line, print_word}
use Rattle.message_text.specs.declared.refusal.Refusal.{Refusal}
use Rattle.message_text.specs.declared.refusal.Refusal.TheVariants.{Usage, TextFailed, Unread, Unchecked, NotBuilt, Unloaded, Unplanned, Unfit, Uncommitted, UnknownTable, NoVersion, SinkFailed, Memory}
use Rattle.message_text.specs.Faults.{break_text, path_text, statement_text}

-- ---- a pipeline

abbrev pub pipeline_refused : List ℕ → List ℕ
pipeline_refused reason = print_line (codes "pipeline refused: " ++ reason)

-- a text that has no reading; places are bytes of it, from 0
abbrev pub unread_line : SqlRefusal → List ℕ
unread_line reading.TextTooLong = pipeline_refused (codes "text too long")
unread_line (reading.BadToken at) = pipeline_refused (codes "bad token at " ++ decimal at)
unread_line (reading.LiteralTooLarge at) = pipeline_refused (codes "literal too large at " ++ decimal at)
unread_line (reading.Unexpected at) = pipeline_refused (codes "unexpected at " ++ decimal at)
unread_line (reading.ExprTooLong at) = pipeline_refused (codes "expression too long at " ++ decimal at)
unread_line reading.Memory = []

-- statements that break a check, or datasets that read one another in a cycle
abbrev pub unchecked_line : CheckRefusal → List ℕ
unchecked_line (check.Refused found) = pipeline_refused (break_text found)
unchecked_line (check.Cycle path) = pipeline_refused (codes "cycle " ++ path_text path)
unchecked_line check.Memory = []

-- ---- a store

abbrev pub store_refused : List ℕ → List ℕ
store_refused reason = print_line (codes "store refused: " ++ reason)

-- a word, and then a name
abbrev pub store_names : List ℕ → List ℕ → List ℕ
store_names word name = store_refused (word ++ print_word name)

abbrev pub disk_failed : List ℕ
disk_failed = print_line (codes "disk failed")

abbrev pub side_word : Side → List ℕ
side_word Left = codes "left"
side_word Right = codes "right"

-- what is wrong with the file of a side
abbrev pub side_text : List ℕ → Side → List ℕ → ℕ → List ℕ
side_text wrong side before number = (wrong ++ side_word side) ++ (before ++ decimal number)

-- where the log would end, and how much of the file there may be
abbrev pub full_text : ℕ → ℕ → List ℕ
full_text end room = (codes "full: end " ++ decimal end) ++ (codes ", room " ++ decimal room)

-- a dataset whose stored text isn't the given one
abbrev pub changed_text : List ℕ → List ℕ → List ℕ → List ℕ
changed_text name stored given = (codes "changed " ++ print_word name) ++ (codes ": stored " ++ print_word stored) ++ (codes ", given " ++ print_word given)

-- a dataset that stands at the last version
abbrev pub versions_text : List ℕ → List ℕ
versions_text name = codes "versions of " ++ print_word name ++ codes " are full"

-- a version that is asked for of a dataset
abbrev pub asked_text : List ℕ → ℕ → List ℕ
asked_text name asked = (codes "no version " ++ decimal asked) ++ (codes " of " ++ print_word name)

-- the versions that are kept of it
abbrev pub kept_text : ℕ → ℕ → List ℕ
kept_text base newest = (codes ", kept " ++ decimal base) ++ (codes " to " ++ decimal newest)

-- a version of a dataset that isn't kept
abbrev pub no_version_text : List ℕ → ℕ → ℕ → ℕ → List ℕ
no_version_text name asked base newest = asked_text name asked ++ kept_text base newest

-- a store that isn't loaded
abbrev pub unloaded_line : StoreRefusal → List ℕ
unloaded_line (store.Foreign side len) = store_refused (side_text (codes "foreign ") side (codes " ") len)
unloaded_line (store.Damaged side at) = store_refused (side_text (codes "damaged ") side (codes " at ") at)
unloaded_line (store.SameEpoch epoch) = store_refused (codes "both logs have epoch " ++ decimal epoch)
unloaded_line (store.Full end room) = store_refused (full_text end room)
unloaded_line store.Failed = disk_failed
unloaded_line store.Memory = []

-- an update that isn't begun
abbrev pub unplanned_line : PlanEnd → List ℕ
unplanned_line (planning.Changed name stored given) = store_refused (changed_text name stored given)
unplanned_line (planning.Removed name) = store_names (codes "removed ") name
unplanned_line (planning.UnknownTable name) = store_names (codes "unknown table ") name
unplanned_line planning.Memory = []

-- a payload that isn't committed, or a store that isn't compacted
abbrev pub uncommitted_line : CommitEnd → List ℕ
uncommitted_line (commit.Failed count) = disk_failed
uncommitted_line (commit.Full end room) = store_refused (full_text end room)
uncommitted_line (commit.VersionFull name) = store_refused (versions_text name)
uncommitted_line (commit.EpochFull epoch) = store_refused (codes "epochs are full")
uncommitted_line commit.Memory = []

-- ---- a run

-- One line; nothing where the output failed, or memory ran out.
abbrev pub message_of : Refusal → List ℕ
message_of Usage = print_line (codes "usage: PIPELINE STORE LANDING COMMAND [then COMMAND]...")
message_of TextFailed = print_line (codes "text failed")
message_of (Unread refusal) = unread_line refusal
message_of (Unchecked refusal) = unchecked_line refusal
message_of (NotBuilt statement) = pipeline_refused (statement_text statement (codes "not yet supported"))
message_of (Unloaded refusal) = unloaded_line refusal
message_of (Unplanned end) = unplanned_line end
message_of (Unfit name) = store_names (codes "unfit ") name
message_of (Uncommitted end) = uncommitted_line end
message_of (UnknownTable name) = store_names (codes "unknown table ") name
message_of (NoVersion name asked base newest) = store_refused (no_version_text name asked base newest)
message_of SinkFailed = []
message_of Memory = []

-- ---- a compaction

-- a store was compacted into a log of this epoch
abbrev pub compacted_line : ℕ → List ℕ
compacted_line epoch = print_line (codes "compacted: epoch " ++ decimal epoch)
