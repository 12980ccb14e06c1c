-- The accounts that steps lead to: what the laws of one site speak of.
use Rattle.std.specs.Prelude.{◌≡◌, List}
use Rattle.admission_model.specs.Account.{Origin, Account, begin}
use Rattle.admission_model.specs.Serving.{Step, replay}
use Rattle.admission_model.specs.Sound.{IsOrigin}

-- some list of steps leads to the account, from where an account may begin
pub record IsReached (a : Account) : Type 0 where
  pub from : Origin
  pub may_begin : IsOrigin from
  pub steps : List Step
  pub reached : a ≡ replay (begin from) steps
