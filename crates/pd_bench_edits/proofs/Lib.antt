mod NetLemmas
mod PortLemmas
