pub mod GracefulStop
