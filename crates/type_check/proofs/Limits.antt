-- Outputs that are looked at as far as the limit and one more.
use Rattle.std.proofs.Common.{◌≡◌, ℕ, ◌≤◌, List, ◌++◌, length, take, drop, sym, ap, ◌∙◌}
use Rattle.std.specs.Prelude.{flat_map}
use Rattle.std.proofs.lemmas.Grind.{flat_map-append}
use Rattle.std.proofs.lemmas.List.{take-append-drop, take-append-le}
use Rattle.sql_tree.specs.declared.statement.Out.{Out}
use Rattle.value_core.specs.declared.schema.Column.{Column}
use Rattle.type_check.specs.Outputs.{looked_at, outputs_by, outputs_of, outputs_seen}

-- where the first outputs give as many as are looked at, those are the first of all
pub enough : (source : List Column) (outs : List Out) (n : ℕ) → 257 ≤ length (flat_map (outputs_by source) (take n outs)) →
    looked_at (flat_map (outputs_by source) (take n outs)) ≡ outputs_seen source outs
enough source outs n many =
    let front = flat_map (outputs_by source) (take n outs) in
    let back = flat_map (outputs_by source) (drop n outs) in
    let all : front ++ back ≡ outputs_of source outs = sym (flat_map-append (outputs_by source) (take n outs) (drop n outs)) ∙ ap (flat_map (outputs_by source)) (take-append-drop n outs) in
    sym (take-append-le 257 front back many) ∙ ap looked_at all
