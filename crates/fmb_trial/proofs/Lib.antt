mod BenchLemmas
mod DeviceLemmas
mod JudgeLemmas
mod ScriptLemmas
mod TrialLemmas
