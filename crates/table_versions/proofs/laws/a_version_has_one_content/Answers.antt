use Rattle.table_versions.proofs.VersionLemmas.{version_order, last_content, first_content}
use Rattle.table_versions.proofs.laws.a_version_has_one_content.Goals as goal

pub returns-clause-order : goal.returns-clause-order
returns-clause-order c = version_order

pub returns-clause-last : goal.returns-clause-last
returns-clause-last c = last_content

pub returns-clause-first : goal.returns-clause-first
returns-clause-first c = first_content
