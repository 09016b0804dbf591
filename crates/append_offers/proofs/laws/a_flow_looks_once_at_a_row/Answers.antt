use Rattle.std.proofs.Common.{sym}
use Rattle.table_versions.specs.Versions.{changes_since, content_now}
use Rattle.append_offers.proofs.LookLemmas.{looks_added, sorted_length}
use Rattle.append_offers.proofs.laws.a_flow_looks_once_at_a_row.Goals as goal

pub returns-clause-first : goal.returns-clause-first
returns-clause-first c = λ table. sym (sorted_length (content_now table))

pub returns-clause-since : goal.returns-clause-since
returns-clause-since c = λ table version none. looks_added (changes_since table version) none
