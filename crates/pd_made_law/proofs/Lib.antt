pub mod TokenLemmas
pub mod CommandLemmas
pub mod ScriptLemmas
