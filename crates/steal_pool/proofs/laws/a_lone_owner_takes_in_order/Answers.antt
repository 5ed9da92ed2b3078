use Rattle.std.proofs.Common.{refl, arith}
use Rattle.lemmas.specs.Truth.{same_values}
use Rattle.lemmas.specs.Counts.{one_if}
use Rattle.steal_pool.specs.Accounts.{account}
use Rattle.steal_pool.proofs.Passes.{next_put, emptied}
use Rattle.steal_pool.proofs.laws.a_lone_owner_takes_in_order.Goals as goal

pub returns-clause-first : goal.returns-clause-first
returns-clause-first c = λ put taken piece was. next_put (account 64 put taken) piece refl was

pub returns-clause-none : goal.returns-clause-none
returns-clause-none c = λ put taken held piece. let e = emptied (account 64 put taken) refl held (λ q. one_if (same_values piece q)) in omega arith
