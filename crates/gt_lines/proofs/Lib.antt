mod RunLemmas
mod ScriptLemmas
mod CallLemmas
