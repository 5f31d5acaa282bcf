use Rattle.sn_interlink.proofs.Parting.{opens}
use Rattle.sn_interlink.proofs.interlink.Interlink.new.Goals as goal

pub vacant-requires : goal.vacant-requires
vacant-requires c = opens
