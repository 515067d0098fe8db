pub mod Laws
pub mod Admitted
pub mod Steps
pub mod CallLaws
pub mod Victims
pub mod Scans
pub mod ScanLaws
