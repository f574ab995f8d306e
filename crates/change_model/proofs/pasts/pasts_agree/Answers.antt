use Rattle.std.proofs.Common.{◌≡◌, ℕ, refl}
use Rattle.ord_types.specs.declared.values.Place.{Place}
use Rattle.change_model.specs.Changing.{resumed}
use Rattle.change_model.specs.Past.{changing_in, opened_at}
use Rattle.change_model.proofs.AgreeLemmas.{moments_agree, new_config_drops_all, opens}
use Rattle.change_model.proofs.pasts.pasts_agree.Goals as goal

pub returns-clause-opens : goal.returns-clause-opens
returns-clause-opens c = opens

pub returns-clause-one_more : goal.returns-clause-one_more
returns-clause-one_more c = moments_agree

pub returns-clause-new_config : goal.returns-clause-new_config
returns-clause-new_config c = new_config_drops_all
