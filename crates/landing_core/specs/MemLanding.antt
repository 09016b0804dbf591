-- Which calls of a landing in memory are to fail.
use Rattle.std.specs.Prelude.{ℕ, List}
use Rattle.disk_model.specs.Failing.{failing_calls, calls_made}
use Rattle.landing_core.specs.declared.mem_landing.MemLanding.{MemLanding}

-- the numbers of the calls that are to fail, from 1
abbrev pub landing_failing : MemLanding → List ℕ
landing_failing landing = failing_calls landing.failing

-- how many calls were made
abbrev pub landing_made : MemLanding → ℕ
landing_made landing = calls_made landing.failing
