use Rattle.tj_future.proofs.LookAnswers.{looks_stand}
use Rattle.tj_future.proofs.look_laws.looks_stand.Goals as goal

pub returns : goal.returns
returns g c = λ program key u later a id p v w answer at h zero runs other last there may r home.
    looks_stand _ program key u later a id p v w answer at h zero runs other last there may r home
