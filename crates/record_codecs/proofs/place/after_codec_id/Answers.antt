use Rattle.record_codecs.proofs.BodyTurns.{known_codec, unknown_codec}
use Rattle.record_codecs.proofs.place.after_codec_id.Goals as goal

pub returns-in-Some-clause-follows : goal.returns-in-Some-clause-follows
returns-in-Some-clause-follows c field n = known_codec field c.args.value c.in-Some.codec n c.in-Some.ensures

pub returns-in-None-clause-follows : goal.returns-in-None-clause-follows
returns-in-None-clause-follows c field n = unknown_codec field c.args.value n c.in-None.ensures
