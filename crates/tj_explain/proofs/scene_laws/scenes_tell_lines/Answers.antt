use Rattle.tj_explain.proofs.SceneLines.{scenes_tell_lines}
use Rattle.tj_explain.proofs.scene_laws.scenes_tell_lines.Goals as goal

pub returns : goal.returns
returns c = scenes_tell_lines c.texts_tell_each_finding.ensures c.objects_tell_each_finding.ensures
