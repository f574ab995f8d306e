use Rattle.std.proofs.Common.{refl}
use Rattle.bft_node.proofs.lodged.Lodged.open.Goals as goal

pub returns-clause-opened : goal.returns-clause-opened
returns-clause-opened c =
    let node = c.in_ok-node.ensures in
    record {
      runs = node.open;
      id = node.id;
      config = node.config;
      chain = node.chain;
      state = node.state;
      value = node.value refl;
      finds = node.finds refl;
      any_moment = c.open.ensures.any_moment refl;
      kept = node.ready.kept refl;
    }
