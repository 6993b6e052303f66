pub mod Ready
pub mod Methods
