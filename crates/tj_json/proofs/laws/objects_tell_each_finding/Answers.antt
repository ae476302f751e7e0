use Rattle.tj_json.proofs.ObjectBeginnings.{begin_right}
use Rattle.tj_json.proofs.ObjectLines.{each_one_line, tell_each}
use Rattle.tj_json.proofs.ObjectNames.{has_names}
use Rattle.tj_json.proofs.laws.objects_tell_each_finding.Goals as goal

pub returns : goal.returns
returns c = λ s. (tell_each s, each_one_line s, has_names s, begin_right s)
